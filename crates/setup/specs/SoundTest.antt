-- WHETHER IDENTITY AND TABLES ARE SOUND, AS A TEST: a function of what was handed in, so that a later call is one equation. Each part is a claim that is
-- decided (Decide.antt of the crate reading): its type names the claim for which its test is true. That the whole is true exactly for `SoundCall` is `Tested`.
use Rattle.std.specs.Prelude.{ℕ, ◌^◌, Bool, true, ◌&&◌, List, [], ◌∷◌, map, ◌↔◌, ◌≡◌, refl, ltb, leb, length}
use Rattle.std.proofs.Common.{ap}
use Rattle.reading.specs.Lists.{all}
use Rattle.reading.specs.Counted.{Counted}
use Rattle.reading.specs.Inner.Decide.{Decided, holds, at_most, below, equal, equivalent, both, implies, negated, each, same_list}
use Rattle.limits.specs.declared.Limits.{Limits}
use Rattle.identification.specs.declared.Identity.{Identity}
use Rattle.identification.specs.Sound.{is_sound}
use Rattle.book.specs.Content.{Book}
use Rattle.book.specs.LookupReading as L
use Rattle.book.specs.Carried.{NoLookup, SomeLookup, CarriedBook}
use Rattle.book.specs.Rules.{Rule6}
use Rattle.floor.specs.Content.{Class, Floor, class_count, value_count}
use Rattle.floor.specs.Carried.{CarriedClass, CarriedFloor}
use Rattle.floor.specs.Rules.{Class11, Rule12}
use Rattle.residue.specs.Content.{Residue}
use Rattle.residue.specs.Carried.{Rows8, CarriedResidue}
use Rattle.residue.specs.Rules.{Residue11}
use Rattle.mapping.specs.Content.{Coupling, Submap, Mapping}
use Rattle.mapping.specs.Carried.{CarriedMapping}
use Rattle.mapping.specs.Rules.{Coupling11, Submap11, Mapping11}
use Rattle.setup.specs.Content.{Setup}
use Rattle.setup.specs.Carried.{Carried}
use Rattle.setup.specs.Rules.{Rule11, Rule14, MeetsRules}
use Rattle.setup.specs.Layout.{Tables, has_room, written_out, tables}
use Rattle.setup.specs.Inner.Decode.{decode_setup}
use Rattle.setup.specs.Sound.{SoundCall, OneContent}

-- what a packet can carry
counted : (most n : ℕ) → Decided (Counted most n)
counted most n = equivalent (λ p. record { low = p.0; high = p.1 }) (λ x. (x.low, x.high)) (both (at_most 1 n) (at_most n most))

no_lookup : (b : Book) → Decided (NoLookup b)
no_lookup b =
    equivalent (λ p. record { minimum = p.0; delta = p.1.0; width = p.1.1.0; sequence = p.1.1.1.0; multiplicands = p.1.1.1.1 })
    (λ x. (x.minimum, (x.delta, (x.width, (x.sequence, x.multiplicands)))))
    (both (equal b.minimum 0) (both (equal b.delta 0) (both (equal b.width 0) (both (equal b.sequence 0) (same_list b.multiplicands [])))))

some_lookup : (b : Book) → Decided (SomeLookup b)
some_lookup b =
    equivalent
    (λ p. record {
      minimum = p.0;
      delta = p.1.0;
      width_low = p.1.1.0;
      width_high = p.1.1.1.0;
      sequence = p.1.1.1.1.0;
      count = p.1.1.1.1.1.0;
      fit = p.1.1.1.1.1.1;
    })
    (λ x. (x.minimum, (x.delta, (x.width_low, (x.width_high, (x.sequence, (x.count, x.fit)))))))
    (both (below b.minimum (2 ^ 32))
    (both (below b.delta (2 ^ 32))
    (both (at_most 1 b.width)
    (both (at_most b.width 16)
    (both (at_most b.sequence 1)
    (both (equal (length b.multiplicands) (L.value_count b.lookup (length b.lengths) b.dimensions))
    (holds (all (λ v. ltb v (2 ^ b.width)) b.multiplicands))))))))

carried_book : (b : Book) → Decided (CarriedBook b)
carried_book b =
    equivalent (λ p. record { dimensions = p.0; entries = p.1.0; lengths = p.1.1.0; no_lookup_is = p.1.1.1.0; some_lookup_is = p.1.1.1.1 })
    (λ x. (x.dimensions, (x.entries, (x.lengths, (x.no_lookup_is, x.some_lookup_is)))))
    (both (below b.dimensions (2 ^ 16))
    (both (below (length b.lengths) (2 ^ 24))
    (both (holds (all (λ l. leb l 32) b.lengths))
    (both (implies (equal b.lookup 0) (no_lookup b))
    (implies (negated (equal b.lookup 0)) (some_lookup b))))))

carried_class : (c : Class) → Decided (CarriedClass c)
carried_class c =
    equivalent
    (λ p. record { dimensions = p.0; subclasses = p.1.0; no_master = p.1.1.0; some_master = p.1.1.1.0; count = p.1.1.1.1.0; books = p.1.1.1.1.1 })
    (λ x. (x.dimensions, (x.subclasses, (x.no_master, (x.some_master, (x.count, x.books))))))
    (both (counted 8 c.dimensions)
    (both (at_most c.subclasses 3)
    (both (implies (equal c.subclasses 0) (equal c.master 0))
    (both (implies (negated (equal c.subclasses 0)) (at_most 1 c.master))
    (both (equal (length c.books) (2 ^ c.subclasses))
    (holds (all (λ b. leb b 255) c.books)))))))

carried_floor : (f : Floor) → Decided (CarriedFloor f)
carried_floor f =
    equivalent
    (λ p. record {
      partitions = p.0;
      classes_named = p.1.0;
      class_count_is = p.1.1.0;
      classes = p.1.1.1.0;
      multiplier = p.1.1.1.1.0;
      rangebits = p.1.1.1.1.1.0;
      value_count_is = p.1.1.1.1.1.1.0;
      in_range = p.1.1.1.1.1.1.1;
    })
    (λ x. (x.partitions, (x.classes_named, (x.class_count_is, (x.classes, (x.multiplier, (x.rangebits, (x.value_count_is, x.in_range))))))))
    (both (at_most (length f.partitions) 31)
    (both (holds (all (λ c. ltb c 16) f.partitions))
    (both (equal (length f.classes) (class_count f.partitions))
    (both (each carried_class f.classes)
    (both (counted 4 f.multiplier)
    (both (at_most f.rangebits 15)
    (both (equal (length f.xs) (value_count (map (λ c. c.dimensions) f.classes) f.partitions))
    (holds (all (λ x. ltb x (2 ^ f.rangebits)) f.xs)))))))))

rows8 : (l : List (List ℕ)) → Decided (Rows8 l)
unfolding Rows8
rows8 [] = record { test = true; tells = ((λ e. tt), (λ x. refl)) }
rows8 (row ∷ l) = both (equal (length row) 8) (rows8 l)

carried_residue : (r : Residue) → Decided (CarriedResidue r)
carried_residue r =
    equivalent (λ p. record { begin = p.0; end = p.1.0; size = p.1.1.0; classifications = p.1.1.1.0; plan = p.1.1.1.1.0; passes = p.1.1.1.1.1 })
    (λ x. (x.begin, (x.end, (x.size, (x.classifications, (x.plan, x.passes))))))
    (both (below r.begin (2 ^ 24))
    (both (below r.end (2 ^ 24))
    (both (counted (2 ^ 24) r.size)
    (both (counted 64 r.classifications)
    (both (equal (length r.plan) r.classifications)
    (rows8 r.plan))))))

carried_mapping : (channels : ℕ) (m : Mapping) → Decided (CarriedMapping channels m)
carried_mapping channels m =
    equivalent (λ p. record { couplings = p.0; submaps = p.1.0; no_multiplex = p.1.1.0; some_multiplex = p.1.1.1 })
    (λ x. (x.couplings, (x.submaps, (x.no_multiplex, x.some_multiplex))))
    (both (at_most (length m.couplings) 256)
    (both (counted 16 (length m.submaps))
    (both (implies (equal (length m.submaps) 1) (same_list m.multiplex []))
    (implies (at_most 2 (length m.submaps)) (equal (length m.multiplex) channels)))))

carried : (channels : ℕ) (c : Setup) → Decided (Carried channels c)
carried channels c =
    equivalent
    (λ p. record {
      few_channels = p.0;
      book_count = p.1.0;
      books = p.1.1.0;
      floor_count = p.1.1.1.0;
      floors = p.1.1.1.1.0;
      residue_count = p.1.1.1.1.1.0;
      residues = p.1.1.1.1.1.1.0;
      mapping_count = p.1.1.1.1.1.1.1.0;
      mappings = p.1.1.1.1.1.1.1.1.0;
      mode_count = p.1.1.1.1.1.1.1.1.1.0;
      modes = p.1.1.1.1.1.1.1.1.1.1;
    })
    (λ x. (x.few_channels, (x.book_count, (x.books, (x.floor_count, (x.floors, (x.residue_count, (x.residues, (x.mapping_count, (x.mappings, (x.mode_count, x.modes)))))))))))
    (both (at_most channels 255)
    (both (counted 256 (length c.books))
    (both (each carried_book c.books)
    (both (counted 64 (length c.floors))
    (both (each carried_floor c.floors)
    (both (counted 64 (length c.residues))
    (both (each carried_residue c.residues)
    (both (counted 64 (length c.mappings))
    (both (each (carried_mapping channels) c.mappings)
    (both (counted 64 (length c.modes))
    (each (λ m. at_most m.blockflag 1) c.modes)))))))))))

-- the rules
rule6 : (b : Book) → Decided (Rule6 b)
rule6 b =
    equivalent (λ p. record { dimensions = p.0; entries = p.1.0; lookup = p.1.1 }) (λ x. (x.dimensions, (x.entries, x.lookup)))
    (both (holds _) (both (holds _) (holds _)))

class11 : (books : ℕ) (c : Class) → Decided (Class11 books c)
class11 books c = equivalent (λ p. record { master = p.0; subclasses = p.1 }) (λ x. (x.master, x.subclasses)) (both (holds _) (holds _))

residue11 : (books : ℕ) (r : Residue) → Decided (Residue11 books r)
residue11 books r = equivalent (λ p. record { classbook = p.0; plan = p.1 }) (λ x. (x.classbook, x.plan)) (both (holds _) (holds _))

coupling11 : (channels : ℕ) (c : Coupling) → Decided (Coupling11 channels c)
coupling11 channels c =
    equivalent (λ p. record { magnitude = p.0; angle = p.1.0; coupled = p.1.1 }) (λ x. (x.magnitude, (x.angle, x.coupled)))
    (both (holds _) (both (holds _) (holds _)))

submap11 : (floors residues : ℕ) (m : Submap) → Decided (Submap11 floors residues m)
submap11 floors residues m = equivalent (λ p. record { floor = p.0; residue = p.1 }) (λ x. (x.floor, x.residue)) (both (holds _) (holds _))

mapping11 : (channels floors residues : ℕ) (m : Mapping) → Decided (Mapping11 channels floors residues m)
mapping11 channels floors residues m =
    equivalent (λ p. record { couplings = p.0; multiplex = p.1.0; submaps = p.1.1 }) (λ x. (x.couplings, (x.multiplex, x.submaps)))
    (both (each (coupling11 channels) m.couplings) (both (holds _) (each (submap11 floors residues) m.submaps)))

rule11 : (channels : ℕ) (c : Setup) → Decided (Rule11 channels c)
rule11 channels c =
    equivalent (λ p. record { floors = p.0; residues = p.1.0; mappings = p.1.1.0; modes = p.1.1.1 }) (λ x. (x.floors, (x.residues, (x.mappings, x.modes))))
    (both (each (λ f. each (class11 (length c.books)) f.classes) c.floors)
    (both (each (residue11 (length c.books)) c.residues)
    (both (each (mapping11 channels (length c.floors) (length c.residues)) c.mappings)
    (each (λ m. holds _) c.modes))))

rule12 : (f : Floor) → Decided (Rule12 f)
rule12 f = equivalent (λ p. record { count = p.0; different = p.1 }) (λ x. (x.count, x.different)) (both (holds _) (holds _))

rule14 : (limits : Limits) (bs : List Book) → Decided (Rule14 limits bs)
rule14 limits bs =
    equivalent (λ p. record { book = p.0; entries = p.1.0; multiplicands = p.1.1 }) (λ x. (x.book, (x.entries, x.multiplicands)))
    (both (each (λ b. holds _) bs) (both (holds _) (holds _)))

meets_rules : (limits : Limits) (channels : ℕ) (c : Setup) → Decided (MeetsRules limits channels c)
meets_rules limits channels c =
    equivalent
    (λ p. record {
      rule6 = p.0;
      rule7 = p.1.0;
      rule8 = p.1.1.0;
      rule10 = p.1.1.1.0;
      rule11 = p.1.1.1.1.0;
      rule12 = p.1.1.1.1.1.0;
      rule13 = p.1.1.1.1.1.1.0;
      rule14 = p.1.1.1.1.1.1.1;
    })
    (λ x. (x.rule6, (x.rule7, (x.rule8, (x.rule10, (x.rule11, (x.rule12, (x.rule13, x.rule14))))))))
    (both (each rule6 c.books)
    (both (each (λ b. holds _) c.books)
    (both (each (λ b. holds _) c.books)
    (both (each (λ r. holds _) c.residues)
    (both (rule11 channels c)
    (both (each rule12 c.floors)
    (both (each (λ r. holds _) c.residues)
    (rule14 limits c.books))))))))

same_tables : (t u : Tables) → Decided (t ≡ u)
same_tables t u =
    equivalent
    (λ p. λ j.
    tables
    (p.0 j)
    (p.1.0 j)
    (p.1.1.0 j)
    (p.1.1.1.0 j)
    (p.1.1.1.1.0 j)
    (p.1.1.1.1.1.0 j)
    (p.1.1.1.1.1.1.0 j)
    (p.1.1.1.1.1.1.1.0 j)
    (p.1.1.1.1.1.1.1.1.0 j)
    (p.1.1.1.1.1.1.1.1.1 j))
    (λ e. (
      ap (λ (x : Tables). x.counts) e,
      (
        ap (λ (x : Tables). x.books) e,
        (
          ap (λ (x : Tables). x.lengths) e,
          (
            ap (λ (x : Tables). x.codewords) e,
            (
              ap (λ (x : Tables). x.multiplicands) e,
              (
                ap (λ (x : Tables). x.floors) e,
                (
                  ap (λ (x : Tables). x.residues) e,
                  (
                    ap (λ (x : Tables). x.plans) e,
                    (
                      ap (λ (x : Tables). x.mappings) e,
                      ap (λ (x : Tables). x.modes) e,
                    ),
                  ),
                ),
              ),
            ),
          ),
        ),
      ),
    ))
    (both (same_list t.counts u.counts)
    (both (same_list t.books u.books)
    (both (same_list t.lengths u.lengths)
    (both (same_list t.codewords u.codewords)
    (both (same_list t.multiplicands u.multiplicands)
    (both (same_list t.floors u.floors)
    (both (same_list t.residues u.residues)
    (both (same_list t.plans u.plans)
    (both (same_list t.mappings u.mappings)
    (same_list t.modes u.modes))))))))))

-- SOUND TABLES WITHOUT A WITNESS: what they decode to can be carried, meets every rule, and is what is written in them
pub record DecodedSound (limits : Limits) (channels : ℕ) (t : Tables) : Type 0 where
  pub carried : Carried channels (decode_setup t)
  pub rules : MeetsRules limits channels (decode_setup t)
  pub room : has_room limits t ≡ true
  pub written : t ≡ written_out (decode_setup t) t

pub decoded_sound : (limits : Limits) (channels : ℕ) (t : Tables) → Decided (DecodedSound limits channels t)
decoded_sound limits channels t =
    equivalent (λ p. record { carried = p.0; rules = p.1.0; room = p.1.1.0; written = p.1.1.1 }) (λ x. (x.carried, (x.rules, (x.room, x.written))))
    (both (carried channels (decode_setup t))
    (both (meets_rules limits channels (decode_setup t))
    (both (holds (has_room limits t))
    (same_tables t (written_out (decode_setup t) t)))))

-- THE TEST that every later call begins with (01, refusal 18)
unfoldable pub sound_test : Limits → Identity → Tables → Bool
sound_test limits i t = is_sound limits.channels i && (decoded_sound limits i.channels t).test

-- what it says: true exactly where identity and tables are sound. The content of the tables is then one alone, which they decode to
pub record Tested (limits : Limits) (i : Identity) (t : Tables) : Type 0 where
  pub tells : (sound_test limits i t ≡ true) ↔ SoundCall limits i t
  pub one_content : OneContent t
