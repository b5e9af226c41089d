-- WHAT A SETUP CALL ACCEPTS MEETS EVERY RULE: the content of an accepted packet is valid, and the tables as that call left them are sound.
-- Assumes nothing.
use Prim.Native.Nat.{ℕ, zero, suc, ◌+◌, ◌≤◌}
use native.Mathlib.Omega.{arith}
use mathlib.Core.Bool.{Bool, true, false}
use mathlib.Core.List.{List}
use mathlib.Core.Path.{◌≡◌, refl, sym, ap, subst, ◌∙◌}
use lib.ListN.{length, replicate}
use Rattle.reading.specs.Outcome.{ok, refusal}
use Rattle.reading.specs.Reader.{Reader, many}
use Rattle.reading.specs.Pad.{pad}
use Rattle.reading.specs.Counted.{Counted}
use Rattle.reading.proofs.Outcomes.{same_ok, then_ok, need-ok}
use Rattle.reading.proofs.Accepted.{many_number}
use Rattle.reading.proofs.Pads.{length-pad}
use Rattle.bits.specs.Field.{field}
use Rattle.bits.proofs.Fields.{field-ok}
use Rattle.header.specs.Header.{common_header, framing}
use Rattle.limits.specs.declared.Limits.{Limits}
use Rattle.identification.specs.declared.Identity.{Identity}
use Rattle.identification.specs.Sound.{is_sound}
use Rattle.identification.proofs.SoundLaws.{sound_test_lem}
use Rattle.book.specs.Content.{Book}
use Rattle.book.specs.Inner.Valid.{ValidBooks}
use Rattle.book.proofs.Accepted.{books_valid}
use Rattle.floor.specs.Reading.{floor}
use Rattle.floor.proofs.Laws.{floors_valid}
use Rattle.residue.specs.Reading.{residue}
use Rattle.residue.proofs.Laws.{residues_valid}
use Rattle.mapping.specs.Reading.{mapping}
use Rattle.mapping.proofs.Laws.{mappings_valid}
use Rattle.mode.specs.Reading.{mode}
use Rattle.mode.proofs.Laws.{modes_valid}
use Rattle.setup.specs.Content.{Setup, books_known, known}
use Rattle.setup.specs.Reading.{book_section, section, time_value, sections, setup}
use Rattle.setup.specs.Layout.{Tables, layout, has_room, written_out, cleared}
use Rattle.setup.specs.Inner.Valid.{ValidSetup}
use Rattle.setup.specs.Sound.{Sound, SoundCall}
use Rattle.setup.specs.Call.{setup_of}
use Rattle.setup.specs.Inner.Parts.{Small}
use Rattle.setup.specs.Accepted.{AcceptedSound}
use Rattle.setup.specs.SoundTest.{sound_test}
use Rattle.setup.proofs.TableLaws.{room_parts}
use Rattle.setup.proofs.RuleLaws.{valid_carried, valid_meets}
use Rattle.setup.proofs.DecodeLaws.{content_decoded}
use Rattle.setup.proofs.TestLaws.{test_tells}
use Rattle.setup.proofs.Numbers.{call_numbered, not_zero}

-- a section: its items, of which there are 1 to 64
record SectionRead {A : Type 0} (r : Reader A) (s : List ℕ) (x : List A × ℕ) : Type 0 where
  number : ℕ
  place : ℕ
  read : many r number s place ≡ ok x
  counted : Counted 64 (length x.0)

section_read : {A : Type 0} (r : Reader A) (s : List ℕ) (k : ℕ) {x : List A × ℕ} → section r s k ≡ ok x → SectionRead r s x
unfolding section
section_read r s k {x} e =
    let a = then_ok (field 6 s k) _ e in
    let f = field-ok s k 6 a.1 in
    let b = f.below in
    let n = many_number r s (a.0.0 + 1) a.0.1 a.2 in
    record { number = a.0.0 + 1; place = a.0.1; read = a.2; counted = record { low = omega arith; high = omega arith } }

book_section_lem : (limits : Limits) (s : List ℕ) (k : ℕ) {x : List Book × ℕ} → book_section limits s k ≡ ok x
    → Counted 256 (length x.0) × ValidBooks limits (record { entries = 0; values = 0 }) x.0
unfolding book_section
book_section_lem limits s k {x} e =
    let a = then_ok (field 8 s k) _ e in
    let f = field-ok s k 8 a.1 in
    let b = f.below in
    let v = books_valid limits (record { entries = 0; values = 0 }) (a.0.0 + 1) s a.0.1 (omega arith) a.2 in
    let n = v.1 in
    (record { low = omega arith; high = omega arith }, v.0)

sections_valid : (limits : Limits) (channels : ℕ) (s : List ℕ) (k : ℕ) {x : Setup × ℕ} → sections limits channels s k ≡ ok x → ValidSetup limits channels x.0
unfolding sections
sections_valid limits channels s k {x} e =
    let bs = then_ok (book_section limits s k) _ e in
    let times = then_ok (section time_value s bs.0.1) _ bs.2 in
    let fs = then_ok (section (floor (length bs.0.0)) s times.0.1) _ times.2 in
    let rs = then_ok (section (residue (books_known bs.0.0)) s fs.0.1) _ fs.2 in
    let ms = then_ok (section (mapping (known channels fs.0.0 rs.0.0)) s rs.0.1) _ rs.2 in
    let os = then_ok (section (mode (length ms.0.0)) s ms.0.1) _ ms.2 in
    let b = book_section_lem limits s k bs.1 in
    let f = section_read (floor (length bs.0.0)) s times.0.1 fs.1 in
    let r = section_read (residue (books_known bs.0.0)) s fs.0.1 rs.1 in
    let m = section_read (mapping (known channels fs.0.0 rs.0.0)) s rs.0.1 ms.1 in
    let o = section_read (mode (length ms.0.0)) s ms.0.1 os.1 in
    let c : Setup = record { books = bs.0.0; floors = fs.0.0; residues = rs.0.0; mappings = ms.0.0; modes = os.0.0 } in
    let same : ◌≡◌ {A = Setup × ℕ} (c, os.0.1) x = same_ok (ok (c, os.0.1)) refl os.2 in
    let valid : ValidSetup limits channels c =
    record {
      book_count = b.0;
      books = b.1;
      floor_count = f.counted;
      floors = floors_valid (length bs.0.0) s f.number f.place f.read;
      residue_count = r.counted;
      residues = residues_valid (books_known bs.0.0) s r.number r.place rs.0 r.read;
      mapping_count = m.counted;
      mappings = (mappings_valid (known channels fs.0.0 rs.0.0) s m.number m.place ms.0 m.read).1;
      mode_count = o.counted;
      modes = (modes_valid (length ms.0.0) s o.number o.place os.0 o.read).1;
    } in
    subst (λ (y : Setup × ℕ). ValidSetup limits channels y.0) same valid

-- THE CONTENT OF AN ACCEPTED PACKET IS VALID
pub setup_valid : (limits : Limits) (channels : ℕ) (s : List ℕ) {c : Setup} → setup limits channels s ≡ ok c → ValidSetup limits channels c
unfolding setup
setup_valid limits channels s {c} e =
    let h = then_ok (common_header 5 s) _ e in
    let x = then_ok (sections limits channels s h.0) _ h.2 in
    let f = then_ok (framing s x.0.1) _ x.2 in
    let same : x.0.0 ≡ c = same_ok (ok x.0.0) refl f.2 in
    subst (ValidSetup limits channels) same (sections_valid limits channels s h.0 x.1)

-- a table that was written out is as long as it was lent, so its room is the same, and written out again it is the same
pub room_written : (limits : Limits) (c : Setup) (t : Tables) → has_room limits (written_out c t) ≡ has_room limits t
unfolding has_room written_out
room_written limits c t =
    rw (
      length-pad (length t.counts) (layout c).counts,
      length-pad (length t.books) (layout c).books,
      length-pad (length t.lengths) (layout c).lengths,
      length-pad (length t.codewords) (layout c).codewords,
      length-pad (length t.multiplicands) (layout c).multiplicands,
      length-pad (length t.floors) (layout c).floors,
      length-pad (length t.residues) (layout c).residues,
      length-pad (length t.plans) (layout c).plans,
      length-pad (length t.mappings) (layout c).mappings,
      length-pad (length t.modes) (layout c).modes,
    )

pub written_twice : (c : Setup) (t : Tables) → written_out c t ≡ written_out c (written_out c t)
unfolding written_out
written_twice c t =
    λ j.
    record {
      counts = pad (sym (length-pad (length t.counts) (layout c).counts) j) (layout c).counts;
      books = pad (sym (length-pad (length t.books) (layout c).books) j) (layout c).books;
      lengths = pad (sym (length-pad (length t.lengths) (layout c).lengths) j) (layout c).lengths;
      codewords = pad (sym (length-pad (length t.codewords) (layout c).codewords) j) (layout c).codewords;
      multiplicands = pad (sym (length-pad (length t.multiplicands) (layout c).multiplicands) j) (layout c).multiplicands;
      floors = pad (sym (length-pad (length t.floors) (layout c).floors) j) (layout c).floors;
      residues = pad (sym (length-pad (length t.residues) (layout c).residues) j) (layout c).residues;
      plans = pad (sym (length-pad (length t.plans) (layout c).plans) j) (layout c).plans;
      mappings = pad (sym (length-pad (length t.mappings) (layout c).mappings) j) (layout c).mappings;
      modes = pad (sym (length-pad (length t.modes) (layout c).modes) j) (layout c).modes;
    }

-- what an accepted call says of what was handed in
pub record CallAccepted (limits : Limits) (i : Identity) (s : List ℕ) (t : Tables) (c : Setup) : Type 0 where
  pub identity : is_sound limits.channels i ≡ true
  pub room : has_room limits t ≡ true
  pub content : setup limits i.channels s ≡ ok c

pub call_accepted : (limits : Limits) (i : Identity) (s : List ℕ) (t : Tables) {c : Setup} → setup_of limits i s t ≡ ok c → CallAccepted limits i s t c
unfolding setup_of
call_accepted limits i s t {c} e =
    let a = need-ok (is_sound limits.channels i) (refusal 18 0) _ e in
    let b = need-ok (has_room limits t) (refusal 17 0) _ a.1 in
    record { identity = a.0; room = b.0; content = b.1 }

-- THE TABLES AS AN ACCEPTED CALL LEFT THEM ARE SOUND, with the content that was read
pub accepted_sound : (limits : Limits) (i : Identity) (s : List ℕ) (t : Tables) {c : Setup} → Small limits → setup_of limits i s t ≡ ok c → SoundCall limits i (written_out c t)
accepted_sound limits i s t {c} small e =
    let a = call_accepted limits i s t e in
    let v = setup_valid limits i.channels s a.content in
    let sound = (sound_test_lem limits.channels i).0 a.identity in
    let few = sound.few_channels in
    let most = small.few_channels in
    record {
      identity = sound;
      tables = record {
        content = c;
        carried = valid_carried limits i.channels c (omega arith) v;
        rules = valid_meets limits i.channels c v;
        room = room_written limits c t ∙ a.room;
        written = written_twice c t;
      };
    }

-- all-zero tables are not sound: they count no book
unsound_zeros : (limits : Limits) (channels : ℕ) (t : Tables) → Sound limits channels (cleared t) → ⊥
unfolding cleared written_out layout has_room pad
unsound_zeros limits channels t x = go (length t.counts) (ap (λ (u : Tables). u.counts) x.written) (room_parts limits (cleared t) x.room).counts
  where
    go : (n : ℕ) → replicate {A = ℕ} n 0 ≡ pad (length (replicate {A = ℕ} n 0)) (layout x.content).counts → 5 ≤ length (replicate {A = ℕ} n 0) → ⊥
    go zero e h = omega arith
    go (suc n) e h =
        let b = x.carried.book_count.low in
        let z : 0 ≡ length x.content.books = cc in
        omega arith

-- so the test is false of them
zeros_fail : (limits : Limits) (i : Identity) (t : Tables) → sound_test limits i (cleared t) ≡ false
zeros_fail limits i t = go (sound_test limits i (cleared t)) refl
  where
    go : (b : Bool) → sound_test limits i (cleared t) ≡ b → sound_test limits i (cleared t) ≡ false
    go true e = absurd (unsound_zeros limits i.channels t (test_tells.0 e).tables)
    go false e = e

pub accepts : (limits : Limits) (i : Identity) (s : List ℕ) (t : Tables) → Small limits → AcceptedSound limits i s t
unfolding accepted_sound
accepts limits i s t small =
    record {
      tested = λ c e. test_tells.1 (accepted_sound limits i s t small e);
      decoded = λ c e. sym (content_decoded (accepted_sound limits i s t small e).tables);
      cleared_unsound = zeros_fail limits i t;
      numbered = λ z e. not_zero (call_numbered limits i s t) e;
    }
