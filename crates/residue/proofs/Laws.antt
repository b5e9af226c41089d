-- What other crates may cite: an accepted residue meets every rule, a row's length, one row for one content. Assumes nothing.
use Prim.Native.Nat.{ℕ, zero, suc, ◌-◌, ◌*◌, ◌≤◌}
use native.Mathlib.Omega.{arith}
use borrow.Author.Tests.{le-leb}
use mathlib.Core.Bool.{true}
use mathlib.Core.List.{List, [], ◌∷◌, ◌++◌, append-nil, append_assoc}
use mathlib.Core.Path.{◌≡◌, refl, sym, ap, ◌∙◌}
use lib.Dec.{leb}
use lib.ListN.{length, length-append}
use lib.Seq.{take_at, drop_at}
use Rattle.reading.specs.Outcome.{refusal, Outcome, ok, bad, then}
use Rattle.reading.specs.Reader.{Reader, many, each}
use Rattle.reading.specs.Pad.{pad}
use Rattle.reading.specs.Lists.{all, rows}
use Rattle.reading.specs.Encoding.{Each}
use Rattle.reading.proofs.Outcomes.{same_ok, then_ok, need-ok}
use Rattle.reading.proofs.Readers.{Long, many_long, each_long}
use Rattle.reading.proofs.Accepted.{many_each}
use Rattle.reading.proofs.Pads.{length-pad}
use Rattle.residue.specs.Content.{Residue}
use Rattle.residue.specs.Reading.{Books, cascade, passes, plan_book, plan_row, head, residue_from, residue, residue_fits, with_plan}
use Rattle.residue.specs.Layout.{head_row, plan_table, plan_width}
use Rattle.residue.specs.Carried.{Rows8}
use Rattle.residue.specs.Inner.Valid.{ValidResidue, AcceptedValid}
use Rattle.residue.specs.Inner.Decode.{chunks, decode_residue, decode_residues}
use Rattle.residue.proofs.PlanSound.{place_sound, row_read_long}
use Rattle.residue.proofs.RowsLaws.{all_append, pad_cat}
use Rattle.residue.proofs.HeadSound.{head_sound}

pub length-head_row : (r : Residue) → length (head_row r) ≡ 6
unfolding head_row
length-head_row r = refl

pub length-plan_table : (r : Residue) → length (plan_table r) ≡ plan_width
unfolding plan_table
length-plan_table r = length-pad plan_width (rows (λ row. row) r.plan)

-- what was read one after the other: a property that each item has, all have
module _ {A : Type 0} (P : A → Type 0) (All : List A → Type 0) (none : All []) (more : (a : A) (l : List A) → P a → All l → All (a ∷ l)) where
  pub each_all : {B : Type 0} (r : B → Reader A) (s : List ℕ) → ((b : B) (k : ℕ) (x : A × ℕ) → r b s k ≡ ok x → P x.0) → (l : List B) (k : ℕ) (y : List A × ℕ) → each r l s k ≡ ok y → All y.0
  unfolding each
  each_all r s f [] k y e = let g : ◌≡◌ {A = List A × ℕ} ([], k) y = same_ok (ok ([], k)) refl e in rw (ap (λ (z : List A × ℕ). z.0) (sym g)) none
  each_all r s f (b ∷ l) k y e =
      let a = then_ok (r b s k) (λ x. then (each r l s x.1) (λ y. ok (x.0 ∷ y.0, y.1))) e in
      let c = then_ok (each r l s a.0.1) (λ y. ok (a.0.0 ∷ y.0, y.1)) a.2 in
      let g : ◌≡◌ {A = List A × ℕ} (a.0.0 ∷ c.0.0, c.0.1) y = same_ok (ok (a.0.0 ∷ c.0.0, c.0.1)) refl c.2 in
      rw (ap (λ (z : List A × ℕ). z.0) (sym g)) (more a.0.0 c.0.0 (f b k a.0 a.1) (each_all r s f l a.0.1 c.0 c.1))

-- the list that was read is as long as what was asked for
module _ {A : Type 0} where
  pub long_ok : (n : ℕ) (o : Outcome (List A × ℕ)) → Long n o → (y : List A × ℕ) → o ≡ ok y → length y.0 ≡ n
  long_ok n (ok x) h y e = sym (ap (λ (z : List A × ℕ). length z.0) (same_ok (ok x) refl e)) ∙ h
  long_ok n (bad z) h y e = let g : ◌≡◌ {A = ℕ} 0 1 = cc in absurd (omega arith)

-- a row that was read names books that are set up
abbrev SetUp : ℕ → List ℕ → Type 0
SetUp count l = all (λ b. leb b count) l ≡ true

row_set_up : (count c : ℕ) (s : List ℕ) (k : ℕ) (x : List ℕ × ℕ) → plan_row count c s k ≡ ok x → SetUp count x.0
unfolding plan_row all
row_set_up count c s k x e =
    each_all
    (λ (v : ℕ). v ≤ count)
    (SetUp count)
    refl
    (λ v l h g. rw (le-leb v count h) g)
    (plan_book count)
    s
    (λ b j y f. (place_sound count b s j f).set_up_is)
    (passes c)
    k
    x
    e

-- an accepted residue meets every rule
pub residue_valid : (books : Books) (s : List ℕ) (k : ℕ) (x : Residue × ℕ) → residue books s k ≡ ok x → ValidResidue books x.0
unfolding residue residue_from
residue_valid books s k x e =
    let a = then_ok (head books.count s k) _ e in
    let b = then_ok (many cascade a.0.0.classifications s a.0.1) _ a.2 in
    let c = then_ok (each (plan_row books.count) b.0.0 s b.0.1) _ b.2 in
    let d = need-ok (residue_fits books (with_plan a.0.0 c.0.0)) (refusal 13 k) _ c.2 in
    let g : ◌≡◌ {A = Residue × ℕ} (with_plan a.0.0 c.0.0, c.0.1) x = same_ok (ok (with_plan a.0.0 c.0.0, c.0.1)) refl d.1 in
    let h = head_sound books.count s k {h = a.0.0} {n = a.0.1} a.1 in
    let m : length b.0.0 ≡ a.0.0.classifications =
    long_ok a.0.0.classifications (many cascade a.0.0.classifications s a.0.1) (many_long cascade a.0.0.classifications s a.0.1) b.0 b.1 in
    let n : length c.0.0 ≡ length b.0.0 =
    long_ok (length b.0.0) (each (plan_row books.count) b.0.0 s b.0.1) (each_long (plan_row books.count) b.0.0 s b.0.1) c.0 c.1 in
    let valid : ValidResidue books (with_plan a.0.0 c.0.0) =
    record {
      carried = record {
        begin = h.begin;
        end = h.end;
        size = h.size;
        classifications = h.classifications;
        plan = n ∙ m;
        passes = rows8 b.0.0 b.0.1 c.0 c.1;
      };
      rule10 = h.type;
      rule11 = record { classbook = h.classbook; plan = set_up_is b.0.0 b.0.1 c.0 c.1 };
      rule13 = d.0;
    } in
    rw (ap (λ (z : Residue × ℕ). z.0) (sym g)) valid
  where
    rows8 : (l : List ℕ) (j : ℕ) (y : List (List ℕ) × ℕ) → each (plan_row books.count) l s j ≡ ok y → Rows8 y.0
    rows8 =
        each_all
        (λ (row : List ℕ). length row ≡ 8)
        Rows8
        (unfold Rows8 in tt)
        (λ row l h g. unfold Rows8 in (h, g))
        (plan_row books.count)
        s
        (λ c j y f. row_read_long books.count c s j f)

    set_up_is : (l : List ℕ) (j : ℕ) (y : List (List ℕ) × ℕ) → each (plan_row books.count) l s j ≡ ok y → SetUp books.count (rows (λ row. row) y.0)
    set_up_is =
        each_all
        (SetUp books.count)
        (λ (l : List (List ℕ)). SetUp books.count (rows (λ row. row) l))
        (unfold rows all in refl)
        (λ row l h g. unfold rows in all_append (λ b. leb b books.count) row (rows (λ row. row) l) ∙ rw h g)
        (plan_row books.count)
        s
        (λ c j y f. row_set_up books.count c s j y f)

pub residues_valid : (books : Books) (s : List ℕ) (n k : ℕ) (y : List Residue × ℕ) → many (residue books) n s k ≡ ok y → Each (ValidResidue books) y.0
residues_valid books s n k y e = many_each (residue books) s (ValidResidue books) (residue_valid books s) n k e

pub accepted_valid : (books : Books) (n : ℕ) (s : List ℕ) (k : ℕ) → AcceptedValid books n s k
accepted_valid books n s k = record { valid = λ x e. residues_valid books s n k x e }

-- rows of 8 that begin a list are its chunks
pub chunks-rows : (plan : List (List ℕ)) (rest : List ℕ) → Rows8 plan → chunks (length plan) (rows (λ row. row) plan ++ rest) ≡ plan
unfolding chunks rows Rows8
chunks-rows [] rest r = refl
chunks-rows (row ∷ plan) rest r =
    let e : (row ++ rows (λ row. row) plan) ++ rest ≡ row ++ (rows (λ row. row) plan ++ rest) = append_assoc row (rows (λ row. row) plan) rest in
    rw (e, take_at row (rows (λ row. row) plan ++ rest) 8 r.0, drop_at row (rows (λ row. row) plan ++ rest) 8 r.0) (ap (λ (l : List (List ℕ)). row ∷ l) (chunks-rows plan rest r.1))

-- rows of 8 have 8 places each
pub rows8_long : (plan : List (List ℕ)) → Rows8 plan → length (rows (λ row. row) plan) ≡ 8 * length plan
unfolding rows Rows8
rows8_long [] r = refl
rows8_long (row ∷ plan) r = let a = r.0 in let b = rows8_long plan r.1 in simp length-append (omega arith)

-- a residue's plan in its row: its places, then zeros
pub plan_table_is : (books : Books) (r : Residue) → ValidResidue books r → plan_table r ≡ rows (λ row. row) r.plan ++ pad (plan_width - 8 * r.classifications) []
unfolding plan_table
plan_table_is books r v =
    let a = rows8_long r.plan v.carried.passes in
    let b = v.carried.plan in
    let c = v.carried.classifications.high in
    ap (pad plan_width) (sym (append-nil (rows (λ row. row) r.plan))) ∙ pad_cat plan_width (rows (λ row. row) r.plan) [] (plan_width - 8 * r.classifications) (omega arith)

-- one row for one content: a residue is decoded from its rows, whatever follows them
pub decode_rows_lem : (books : Books) (r : Residue) → ValidResidue books r → (h p : List ℕ) → decode_residue (head_row r ++ h) (plan_table r ++ p) ≡ r
unfolding decode_residue head_row
decode_rows_lem books r v h p =
    let e : chunks r.classifications (plan_table r ++ p) ≡ r.plan =
    ap (λ (l : List ℕ). chunks r.classifications (l ++ p)) (plan_table_is books r v)
    ∙ ap (chunks r.classifications) (append_assoc (rows (λ row. row) r.plan) (pad (plan_width - 8 * r.classifications) []) p)
    ∙ ap (λ (n : ℕ). chunks n (rows (λ row. row) r.plan ++ (pad (plan_width - 8 * r.classifications) [] ++ p))) (sym v.carried.plan)
    ∙ chunks-rows r.plan (pad (plan_width - 8 * r.classifications) [] ++ p) v.carried.passes in
    λ j. record { type = r.type; begin = r.begin; end = r.end; size = r.size; classifications = r.classifications; classbook = r.classbook; plan = e j }

pub decode_row : (books : Books) (r : Residue) → ValidResidue books r → decode_residue (head_row r) (plan_table r) ≡ r
decode_row books r v = (λ j. decode_residue (sym (append-nil (head_row r)) j) (sym (append-nil (plan_table r)) j)) ∙ decode_rows_lem books r v [] []

-- residues are decoded from their tables, whatever the length of these
pub decode_residues_lem : (books : Books) (rs : List Residue) (n a b : ℕ) → length rs ≡ n → Each (ValidResidue books) rs → 6 * n ≤ a → plan_width * n ≤ b
    → decode_residues n (pad a (rows head_row rs)) (pad b (rows plan_table rs)) ≡ rs
unfolding decode_residues rows Each
decode_residues_lem books [] zero a b e v h g = refl
decode_residues_lem books [] (suc n) a b e v h g = absurd (omega arith)
decode_residues_lem books (r ∷ rs) zero a b e v h g = absurd (omega arith)
decode_residues_lem books (r ∷ rs) (suc n) a b e v h g =
    let x : pad a (head_row r ++ rows head_row rs) ≡ head_row r ++ pad (a - 6) (rows head_row rs) = pad_cat a (head_row r) (rows head_row rs) (a - 6) (rw length-head_row (omega arith)) in
    let y : pad b (plan_table r ++ rows plan_table rs) ≡ plan_table r ++ pad (b - plan_width) (rows plan_table rs) =
    pad_cat b (plan_table r) (rows plan_table rs) (b - plan_width) (rw length-plan_table (omega arith)) in
    let first : decode_residue (head_row r ++ pad (a - 6) (rows head_row rs)) (plan_table r ++ pad (b - plan_width) (rows plan_table rs)) ≡ r =
    decode_rows_lem books r v.0 (pad (a - 6) (rows head_row rs)) (pad (b - plan_width) (rows plan_table rs)) in
    let rest = decode_residues_lem books rs n (a - 6) (b - plan_width) (omega arith) v.1 (omega arith) (omega arith) in
    rw
    (x, y, drop_at (head_row r) (pad (a - 6) (rows head_row rs)) 6 (length-head_row r), drop_at (plan_table r) (pad (b - plan_width) (rows plan_table rs)) plan_width (length-plan_table r), first)
    (ap (λ (l : List Residue). r ∷ l) rest)
