-- NO REFUSAL OF A SETUP CALL HAS THE NUMBER 0, so that 0 stands for acceptance alone. Assumes nothing.
use Prim.Native.Nat.{ℕ, zero, suc, ◌+◌, ◌-◌, ◌*◌, ◌^◌, ◌≤◌}
use native.Mathlib.Omega.{arith}
use mathlib.Core.Bool.{Bool, true, false, not, cond, ◌||◌}
use mathlib.Core.List.{List, [], ◌∷◌, map}
use mathlib.Core.Path.{◌≡◌, subst}
use lib.Dec.{eqb, leb, ltb}
use lib.ListN.{length}
use Rattle.reading.specs.Outcome.{Refusal, refusal, Outcome, ok, bad, then}
use Rattle.reading.specs.Reader.{Reader, judged, mapped, many, each}
use Rattle.reading.specs.Lists.{distinct}
use Rattle.reading.proofs.Outcomes.{Numbered, value, number, need_numbered, then_numbered, judged_numbered, mapped_numbered}
use Rattle.bits.specs.Field.{field}
use Rattle.bits.specs.Ilog.{ilog}
use Rattle.bits.proofs.Numbers.{field_numbered, judged-field}
use Rattle.header.specs.Header.{opening, common_header, framing}
use Rattle.header.proofs.Numbers.{exactly_numbered}
use Rattle.limits.specs.declared.Limits.{Limits}
use Rattle.identification.specs.declared.Identity.{Identity}
use Rattle.identification.specs.Sound.{is_sound}
use Rattle.codeword_assignment.specs.Book.{used, first_refused, free_after, is_lone}
use Rattle.rules.specs.Rules.{meets7, meets8}
use Rattle.book.specs.Content.{Book}
use Rattle.book.specs.declared.Head.{Head}
use Rattle.book.specs.HeadReading as H
use Rattle.book.specs.LengthsReading as L
use Rattle.book.specs.LookupReading as U
use Rattle.book.specs.Reading as K
use Rattle.floor.specs.Content.{Class, x_list, Floor, class_count, value_count}
use Rattle.floor.specs.ClassReading as C
use Rattle.floor.specs.XListReading as X
use Rattle.floor.specs.Reading as F
use Rattle.residue.specs.Content.{Residue}
use Rattle.residue.specs.Reading as R
use Rattle.mapping.specs.Content.{Coupling, Submap, Mapping}
use Rattle.mapping.specs.declared.Known.{Known}
use Rattle.mapping.specs.Reading as M
use Rattle.mode.specs.Content.{Mode}
use Rattle.mode.specs.Reading as O
use Rattle.setup.specs.Content.{Setup, books_known, known}
use Rattle.setup.specs.Reading.{book_section, section, time_value, sections, setup}
use Rattle.setup.specs.Layout.{Tables, has_room}
use Rattle.setup.specs.Call.{setup_of}

-- ways to build an outcome
either : {A : Type 0} (t : Bool) {o p : Outcome A} → Numbered o → Numbered p → Numbered (cond t o p)
either true n m = n
either false n m = m

many_numbered : {A : Type 0} (r : Reader A) (s : List ℕ) → ((k : ℕ) → Numbered (r s k)) → (n k : ℕ) → Numbered (many r n s k)
unfolding many
many_numbered r s h zero k = value ([], k)
many_numbered {A} r s h (suc n) k = then_numbered (h k) (λ (x : A × ℕ). then_numbered (many_numbered r s h n x.1) (λ (y : List A × ℕ). value _))

each_numbered : {A C : Type 0} (r : C → Reader A) (s : List ℕ) → ((c : C) (k : ℕ) → Numbered (r c s k)) → (l : List C) (k : ℕ) → Numbered (each r l s k)
unfolding each
each_numbered r s h [] k = value ([], k)
each_numbered {A} r s h (c ∷ l) k = then_numbered (h c k) (λ (x : A × ℕ). then_numbered (each_numbered r s h l x.1) (λ (y : List A × ℕ). value _))

-- books
length_numbered : (sparse : ℕ) (s : List ℕ) (k : ℕ) → Numbered (L.entry_length sparse s k)
unfolding L.entry_length
length_numbered sparse s k =
    either (eqb sparse 0) (mapped_numbered suc (field_numbered 5 s k))
    (then_numbered (field_numbered 1 s k) (λ (f : ℕ × ℕ). either (eqb f.0 0) (value (0, f.1)) (mapped_numbered suc (field_numbered 5 s f.1))))

runs_numbered : (place turns bits left : ℕ) (s : List ℕ) (k : ℕ) → Numbered (L.runs place turns bits left s k)
unfolding L.runs
runs_numbered place zero bits left s k = number (refusal 6 place) (omega arith)
runs_numbered place (suc turns) bits left s k =
    either (eqb left 0) (value ([], k))
    (need_numbered (leb bits 32 || eqb left 0) (refusal 6 place) (omega arith)
    (then_numbered (judged-field (λ n. leb n left) 6 (ilog left) s k (omega arith)) (λ (n : ℕ × ℕ).
    then_numbered (runs_numbered place turns (bits + 1) (left - n.0) s n.1) (λ (rest : List ℕ × ℕ). value _))))

lengths_numbered : (place entries : ℕ) (s : List ℕ) (k : ℕ) → Numbered (L.lengths place entries s k)
unfolding L.lengths
lengths_numbered place entries s k =
    then_numbered (field_numbered 1 s k) (λ (ordered : ℕ × ℕ).
    either (eqb ordered.0 0)
    (then_numbered (field_numbered 1 s ordered.1) (λ (sparse : ℕ × ℕ). many_numbered (L.entry_length sparse.0) s (length_numbered sparse.0 s) entries sparse.1))
    (then_numbered (field_numbered 5 s ordered.1) (λ (first : ℕ × ℕ). runs_numbered place 33 (first.0 + 1) entries s first.1)))

entered_numbered : (place : ℕ) (ls : List ℕ) {o : Outcome (List ℕ × ℕ)} → Numbered o → Numbered (L.entered place ls o)
unfolding L.entered
entered_numbered place ls {o} n =
    need_numbered (meets7 (first_refused ls)) (refusal 7 place) (omega arith)
    (need_numbered (meets8 (free_after ls) (is_lone (used ls))) (refusal 8 place) (omega arith) n)

values_numbered : (place type count most before : ℕ) (s : List ℕ) (k : ℕ) → Numbered (U.values place type count most before s k)
unfolding U.values
values_numbered place type count most before s k =
    then_numbered (field_numbered 32 s k) (λ (minimum : ℕ × ℕ).
    then_numbered (field_numbered 32 s minimum.1) (λ (delta : ℕ × ℕ).
    then_numbered (field_numbered 4 s delta.1) (λ (width : ℕ × ℕ).
    then_numbered (field_numbered 1 s width.1) (λ (sequence : ℕ × ℕ).
    need_numbered (leb (before + count) most) (refusal 14 place) (omega arith)
    (then_numbered (many_numbered (field (width.0 + 1)) s (field_numbered (width.0 + 1) s) count sequence.1) (λ (list : List ℕ × ℕ). value _))))))

lookup_numbered : (place entries dimensions most before : ℕ) (s : List ℕ) (k : ℕ) → Numbered (U.lookup place entries dimensions most before s k)
unfolding U.lookup
lookup_numbered place entries dimensions most before s k =
    then_numbered (judged-field (λ v. leb v 2) 6 4 s k (omega arith)) (λ (type : ℕ × ℕ).
    either (eqb type.0 0) (value (U.no_lookup, type.1)) (values_numbered place type.0 (U.value_count type.0 entries dimensions) most before s type.1))

head_numbered : (l : Limits) (before : H.Before) (s : List ℕ) (k : ℕ) → Numbered (H.head l before s k)
unfolding H.head
head_numbered l before s k =
    then_numbered (judged-field (λ v. eqb v 0x564342) 6 24 s k (omega arith)) (λ (pattern : ℕ × ℕ).
    then_numbered (judged-field (λ v. not (eqb v 0)) 6 16 s pattern.1 (omega arith)) (λ (dimensions : ℕ × ℕ).
    then_numbered (judged_numbered (λ v. leb (before.entries + v) l.entries) 14 (judged (λ v. leb v l.book_entries) 14 (judged (λ v. not (eqb v 0)) 6 (field 24))) s dimensions.1 (omega arith)
    (judged_numbered (λ v. leb v l.book_entries) 14 (judged (λ v. not (eqb v 0)) 6 (field 24)) s dimensions.1 (omega arith)
    (judged-field (λ v. not (eqb v 0)) 6 24 s dimensions.1 (omega arith)))) (λ (entries : ℕ × ℕ). value _)))

book_numbered : (l : Limits) (before : H.Before) (s : List ℕ) (k : ℕ) → Numbered (K.book l before s k)
unfolding K.book
book_numbered l before s k =
    then_numbered (head_numbered l before s k) (λ (h : Head × ℕ).
    then_numbered (then_numbered (lengths_numbered k h.0.entries s h.1) (λ (ls : List ℕ × ℕ). entered_numbered k ls.0 (value ls))) (λ (ls : List ℕ × ℕ).
    then_numbered (lookup_numbered k h.0.entries h.0.dimensions l.multiplicands before.values s ls.1) (λ (x : U.Lookup × ℕ). value _)))

books_numbered : (l : Limits) (n : ℕ) (before : H.Before) (s : List ℕ) (k : ℕ) → Numbered (K.books l before n s k)
unfolding K.books
books_numbered l zero before s k = value ([], k)
books_numbered l (suc n) before s k =
    then_numbered (book_numbered l before s k) (λ (b : Book × ℕ).
    then_numbered (books_numbered l n (K.and_this before b.0) s b.1) (λ (rest : List Book × ℕ). value _))

-- floors
class_numbered : (books : ℕ) (s : List ℕ) (k : ℕ) → Numbered (C.class books s k)
unfolding C.class C.master_book C.subclass_book
class_numbered books s k =
    then_numbered (field_numbered 3 s k) (λ (dimensions : ℕ × ℕ).
    then_numbered (field_numbered 2 s dimensions.1) (λ (subclasses : ℕ × ℕ).
    then_numbered (either (eqb subclasses.0 0) (value (0, subclasses.1)) (mapped_numbered suc (judged-field (λ v. ltb v books) 11 8 s subclasses.1 (omega arith)))) (λ (master : ℕ × ℕ).
    then_numbered (many_numbered (C.subclass_book books) s (λ j. judged-field (λ v. leb v books) 11 8 s j (omega arith)) (2 ^ subclasses.0) master.1) (λ (list : List ℕ × ℕ). value _))))

ends_numbered : (place n : ℕ) (s : List ℕ) (k : ℕ) → Numbered (X.ends place n s k)
unfolding X.ends X.ends_from X.x_values
ends_numbered place n s k =
    then_numbered (field_numbered 2 s k) (λ (multiplier : ℕ × ℕ).
    then_numbered (field_numbered 4 s multiplier.1) (λ (rangebits : ℕ × ℕ).
    then_numbered (either (leb n 63) (many_numbered (field rangebits.0) s (field_numbered rangebits.0 s) n rangebits.1)
    (then_numbered (many_numbered (field rangebits.0) s (field_numbered rangebits.0 s) 63 rangebits.1) (λ (x : List ℕ × ℕ). number (refusal 12 place) (omega arith)))) (λ (xs : List ℕ × ℕ).
    need_numbered (distinct (x_list rangebits.0 xs.0)) (refusal 12 place) (omega arith) (value _))))

floor_numbered : (books : ℕ) (s : List ℕ) (k : ℕ) → Numbered (F.floor books s k)
unfolding F.floor F.floor_type F.floor1 F.floor_from
floor_numbered books s k =
    then_numbered (judged_numbered (λ v. leb v 1) 10 (judged (λ v. not (eqb v 0)) 14 (field 16)) s k (omega arith) (judged-field (λ v. not (eqb v 0)) 14 16 s k (omega arith))) (λ (t : ℕ × ℕ).
    then_numbered (field_numbered 5 s t.1) (λ (count : ℕ × ℕ).
    then_numbered (many_numbered (field 4) s (field_numbered 4 s) count.0 count.1) (λ (partitions : List ℕ × ℕ).
    then_numbered (many_numbered (C.class books) s (class_numbered books s) (class_count partitions.0) partitions.1) (λ (classes : List Class × ℕ).
    then_numbered (ends_numbered k (value_count (map (λ c. c.dimensions) classes.0) partitions.0) s classes.1) (λ (e : X.Ends × ℕ). value _)))))

-- residues
cascade_numbered : (s : List ℕ) (k : ℕ) → Numbered (R.cascade s k)
unfolding R.cascade
cascade_numbered s k =
    then_numbered (field_numbered 3 s k) (λ (low : ℕ × ℕ).
    then_numbered (field_numbered 1 s low.1) (λ (flag : ℕ × ℕ).
    either (eqb flag.0 0) (value (low.0, flag.1)) (mapped_numbered (λ high. high * 8 + low.0) (field_numbered 5 s flag.1))))

plan_numbered : (count c : ℕ) (s : List ℕ) (k : ℕ) → Numbered (R.plan_row count c s k)
unfolding R.plan_row R.plan_book
plan_numbered count c s k =
    each_numbered (R.plan_book count) s (λ bit j. either (eqb bit 0) (value (0, j)) (mapped_numbered suc (judged-field (λ v. ltb v count) 11 8 s j (omega arith)))) (R.passes c) k

residue_numbered : (books : R.Books) (s : List ℕ) (k : ℕ) → Numbered (R.residue books s k)
unfolding R.residue R.residue_from R.head R.head_from
residue_numbered books s k =
    then_numbered
    (then_numbered (judged-field (λ v. leb v 2) 10 16 s k (omega arith)) (λ (type : ℕ × ℕ).
    then_numbered (field_numbered 24 s type.1) (λ (begin : ℕ × ℕ).
    then_numbered (field_numbered 24 s begin.1) (λ (end : ℕ × ℕ).
    then_numbered (field_numbered 24 s end.1) (λ (size : ℕ × ℕ).
    then_numbered (field_numbered 6 s size.1) (λ (classifications : ℕ × ℕ).
    then_numbered (judged-field (λ v. ltb v books.count) 11 8 s classifications.1 (omega arith)) (λ (classbook : ℕ × ℕ). value _)))))))
    (λ (h : R.Head × ℕ).
    then_numbered (many_numbered R.cascade s (cascade_numbered s) h.0.classifications h.1) (λ (cascades : List ℕ × ℕ).
    then_numbered (each_numbered (R.plan_row books.count) s (λ c. plan_numbered books.count c s) cascades.0 cascades.1) (λ (plan : List (List ℕ) × ℕ).
    need_numbered (R.residue_fits books (R.with_plan h.0 plan.0)) (refusal 13 k) (omega arith) (value _))))

-- mappings
channel_numbered : (channels : ℕ) (s : List ℕ) (k : ℕ) → Numbered (M.channel channels s k)
unfolding M.channel
channel_numbered channels s k = judged-field (λ v. ltb v channels) 11 (ilog (channels - 1)) s k (omega arith)

coupling_numbered : (channels : ℕ) (s : List ℕ) (k : ℕ) → Numbered (M.coupling channels s k)
unfolding M.coupling
coupling_numbered channels s k =
    then_numbered (channel_numbered channels s k) (λ (magnitude : ℕ × ℕ).
    then_numbered (judged_numbered (λ v. not (eqb v magnitude.0)) 11 (M.channel channels) s magnitude.1 (omega arith) (channel_numbered channels s magnitude.1)) (λ (angle : ℕ × ℕ). value _))

submap_numbered : (known : Known) (s : List ℕ) (k : ℕ) → Numbered (M.submap known s k)
unfolding M.submap
submap_numbered known s k =
    then_numbered (field_numbered 8 s k) (λ (discarded : ℕ × ℕ).
    then_numbered (judged-field (λ v. ltb v known.floors) 11 8 s discarded.1 (omega arith)) (λ (floor : ℕ × ℕ).
    then_numbered (judged-field (λ v. ltb v known.residues) 11 8 s floor.1 (omega arith)) (λ (residue : ℕ × ℕ). value _)))

flagged : (other w : ℕ) (s : List ℕ) (k : ℕ) → Numbered (then (field 1 s k) (λ flag. cond (eqb flag.0 0) (ok (other, flag.1)) (mapped suc (field w s flag.1))))
flagged other w s k = then_numbered (field_numbered 1 s k) (λ (flag : ℕ × ℕ). either (eqb flag.0 0) (value (other, flag.1)) (mapped_numbered suc (field_numbered w s flag.1)))

mapping_numbered : (known : Known) (s : List ℕ) (k : ℕ) → Numbered (M.mapping known s k)
unfolding M.mapping M.submap_count M.coupling_count M.parts M.multiplexes M.multiplex
mapping_numbered known s k =
    then_numbered (judged-field (λ v. eqb v 0) 9 16 s k (omega arith)) (λ (type : ℕ × ℕ).
    then_numbered (flagged 1 4 s type.1) (λ (submaps : ℕ × ℕ).
    then_numbered (flagged 0 8 s submaps.1) (λ (steps : ℕ × ℕ).
    then_numbered (many_numbered (M.coupling known.channels) s (coupling_numbered known.channels s) steps.0 steps.1) (λ (couplings : List Coupling × ℕ).
    then_numbered (judged-field (λ v. eqb v 0) 9 2 s couplings.1 (omega arith)) (λ (reserved : ℕ × ℕ).
    then_numbered (either (leb submaps.0 1) (value ([], reserved.1))
    (many_numbered (M.multiplex submaps.0) s (λ j. judged-field (λ v. ltb v submaps.0) 11 4 s j (omega arith)) known.channels reserved.1)) (λ (multiplex : List ℕ × ℕ).
    then_numbered (many_numbered (M.submap known) s (submap_numbered known s) submaps.0 multiplex.1) (λ (list : List Submap × ℕ). value _)))))))

-- modes
mode_numbered : (mappings : ℕ) (s : List ℕ) (k : ℕ) → Numbered (O.mode mappings s k)
unfolding O.mode
mode_numbered mappings s k =
    then_numbered (field_numbered 1 s k) (λ (flag : ℕ × ℕ).
    then_numbered (judged-field (λ v. eqb v 0) 9 16 s flag.1 (omega arith)) (λ (window : ℕ × ℕ).
    then_numbered (judged-field (λ v. eqb v 0) 9 16 s window.1 (omega arith)) (λ (transform : ℕ × ℕ).
    then_numbered (judged-field (λ v. ltb v mappings) 11 8 s transform.1 (omega arith)) (λ (mapping : ℕ × ℕ). value _))))

-- the whole
section_numbered : {A : Type 0} (r : Reader A) (s : List ℕ) → ((k : ℕ) → Numbered (r s k)) → (k : ℕ) → Numbered (section r s k)
unfolding section
section_numbered r s h k = then_numbered (field_numbered 6 s k) (λ (n : ℕ × ℕ). many_numbered r s h (n.0 + 1) n.1)

setup_numbered_lem : (limits : Limits) (channels : ℕ) (s : List ℕ) → Numbered (setup limits channels s)
unfolding setup sections book_section common_header framing time_value
setup_numbered_lem limits channels s =
    then_numbered (exactly_numbered (opening 5) s 0) (λ (k : ℕ).
    then_numbered
    (then_numbered (then_numbered (field_numbered 8 s k) (λ (n : ℕ × ℕ). books_numbered limits (n.0 + 1) (record { entries = 0; values = 0 }) s n.1)) (λ (bs : List Book × ℕ).
    then_numbered (section_numbered time_value s (λ j. judged-field (λ v. eqb v 0) 9 16 s j (omega arith)) bs.1) (λ (times : List ℕ × ℕ).
    then_numbered (section_numbered (F.floor (length bs.0)) s (floor_numbered (length bs.0) s) times.1) (λ (fs : List Floor × ℕ).
    then_numbered (section_numbered (R.residue (books_known bs.0)) s (residue_numbered (books_known bs.0) s) fs.1) (λ (rs : List Residue × ℕ).
    then_numbered (section_numbered (M.mapping (known channels fs.0 rs.0)) s (mapping_numbered (known channels fs.0 rs.0) s) rs.1) (λ (ms : List Mapping × ℕ).
    then_numbered (section_numbered (O.mode (length ms.0)) s (mode_numbered (length ms.0) s) ms.1) (λ (modes : List Mode × ℕ). value _)))))))
    (λ (x : Setup × ℕ).
    then_numbered (judged-field (λ v. not (eqb v 0)) 5 1 s x.1 (omega arith)) (λ (f : ℕ × ℕ). value _)))

pub call_numbered : (limits : Limits) (i : Identity) (s : List ℕ) (t : Tables) → Numbered (setup_of limits i s t)
unfolding setup_of
call_numbered limits i s t =
    need_numbered (is_sound limits.channels i) (refusal 18 0) (omega arith)
    (need_numbered (has_room limits t) (refusal 17 0) (omega arith) (setup_numbered_lem limits i.channels s))

pub not_zero : {A : Type 0} {o : Outcome A} {z : Refusal} → Numbered o → o ≡ bad z → 1 ≤ z.number
not_zero {A} {o} {z} n e = go n e
  where
    go : {p : Outcome A} → Numbered p → p ≡ bad z → 1 ≤ z.number
    go (value a) f = let m : ◌≡◌ {A = ℕ} 0 1 = cc in absurd (omega arith)
    go (number y h) f = let q : y ≡ z = cc in subst (λ (x : Refusal). 1 ≤ x.number) q h
