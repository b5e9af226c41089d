-- Laws of recognising a table of mappings as the code asks them: the numbers of each part, one row, the loop over the rows. Assumes nothing.
use Prim.Native.Nat.{ℕ, suc, ◌+◌, ◌-◌, ◌*◌, ◌/◌, ◌%◌, ◌≤◌, ◌<◌}
use native.Mathlib.Nat.{one-mul}
use native.Mathlib.Omega.{arith}
use borrow.Author.Rules.{rules}
use borrow.Author.Tests.{lt-ltb, ltb-true, le-leb, leb-true, not-true, not-false}
use mathlib.Core.Bool.{Bool, true, false, not}
use mathlib.Core.List.{List, [], ◌∷◌, ◌++◌, map}
use mathlib.Core.Logic.{◌↔◌, ⊎_elim}
use mathlib.Core.Path.{◌≡◌, refl, sym, ap, subst, ◌∙◌}
use lib.Dec.{leb}
use lib.ListN.{length, get_or, take, drop, replicate, length-drop, length-replicate, take-append-drop}
use lib.Seq.{get_or-take, drop-cons, drop-drop, take_all, length-take-le}
use Rattle.reading.specs.Lists.{rows}
use Rattle.reading.specs.Pad.{pad}
use Rattle.reading.specs.Encoding.{Zeros, Each, RowOf, Encodes}
use Rattle.reading.proofs.Encodes.{iff_false, not_said, encodes_pad, Left, rows_start, rows_next, rows_stop, rows_end, encodes_long}
use Rattle.reading.proofs.Basics.{length_zero}
use Rattle.reading.proofs.Least.{lt_or_le}
use Rattle.reading.proofs.Pads.{length-pad}
use Rattle.reading.proofs.PairRows.{pair_laws}
use Rattle.mapping.specs.Content.{Coupling, Submap, Mapping, no_submap}
use Rattle.mapping.specs.declared.Known.{Known}
use Rattle.mapping.specs.Layout.{coupling_row, multiplex_row, submap_row, mapping_row, mapping_width, couplings_room}
use Rattle.mapping.specs.Rules.{Coupling11}
use Rattle.mapping.specs.Inner.Valid.{ValidMultiplex, ValidSubmap, ValidMapping}
use Rattle.mapping_tables.specs.Inner.Recognised.{MappingsRecognised, MultiplexCount}
use Rattle.mapping.proofs.RowLaws.{couplings_length, submaps_length, multiplex_rows, multiplex_length, multiplex_wide, mapping_wide, part_couplings, part_multiplex, part_submaps}
use Rattle.mapping.proofs.Laws.{each_all, all_each, coupling_pairs, submap_pairs, multiplex_most}

-- a multiplex number, which stands plus one
module _ (number submaps : ℕ) where
  as_row : RowOf multiplex_row (ValidMultiplex submaps) (number ∷ []) → (1 ≤ number) × (number ≤ submaps)
  unfolding multiplex_row
  as_row r =
      let e : number ≡ suc r.item = ap (λ (l : List ℕ). get_or l 0 0) r.written in
      let v = ltb-true r.item submaps r.valid in
      (omega arith, omega arith)

  pub multiplex_zero : number ≡ 0 → (false ≡ true) ↔ RowOf multiplex_row (ValidMultiplex submaps) (number ∷ [])
  multiplex_zero h = iff_false (λ r. let a = (as_row r).0 in omega arith)

  pub multiplex_some : (number ≡ 0 → ⊥) → (leb number submaps ≡ true) ↔ RowOf multiplex_row (ValidMultiplex submaps) (number ∷ [])
  unfolding multiplex_row
  multiplex_some h = (
    (λ e. let l : number ≤ submaps = leb-true number submaps e in let s : 1 ≤ number = omega (arith, h) in let q : number ≡ suc (number - 1) = omega arith in
        record { item = number - 1; valid = lt-ltb (number - 1) submaps (omega arith); written = ap (λ (x : ℕ). x ∷ []) q }),
    (λ r. le-leb _ _ (as_row r).1),
  )

pub ruleset coupling_recognise_laws = (pair_laws, coupling_pairs)

pub ruleset submap_recognise_laws = (pair_laws, submap_pairs)

-- the loop over the multiplex: i numbers are found right
pub record Numbers (submaps n : ℕ) (cells : List ℕ) (i : ℕ) : Type 0 where
  pub within : i ≤ n
  pub room : n ≤ length cells
  pub left : Left multiplex_row (ValidMultiplex submaps) 1 multiplex_wide n cells i

module _ (submaps n : ℕ) (cells : List ℕ) where
  pub numbers_short : length cells < n → (false ≡ true) ↔ Encodes multiplex_row (ValidMultiplex submaps) n cells
  numbers_short h = iff_false (λ s. let l = encodes_long multiplex_row (ValidMultiplex submaps) 1 multiplex_wide n cells s in omega arith)

  pub numbers_start : n ≤ length cells → Numbers submaps n cells 0
  numbers_start h = record { within = omega arith; room = h; left = rows_start multiplex_row (ValidMultiplex submaps) 1 multiplex_wide n cells }

  module _ (i : ℕ) (f : Numbers submaps n cells i) where
    module _ (h : i < n) {r : Bool} (said : (r ≡ true) ↔ RowOf multiplex_row (ValidMultiplex submaps) (get_or (take n cells) i 0 ∷ [])) where
      single : take 1 (drop (1 * i) cells) ≡ get_or (take n cells) i 0 ∷ []
      single =
          let g = f.room in
          let l : i < length cells = omega arith in
          ap (λ (k : ℕ). take 1 (drop k cells)) (one-mul i) ∙ ap (take 1) (drop-cons cells i 0 l) ∙ ap (λ (v : ℕ). v ∷ []) (sym (get_or-take n cells i 0 h))

      pub numbers_stop : r ≡ false → (false ≡ true) ↔ Encodes multiplex_row (ValidMultiplex submaps) n cells
      numbers_stop e = rows_stop multiplex_row (ValidMultiplex submaps) 1 multiplex_wide n cells i f.left h (λ x. not_said said e (subst (RowOf multiplex_row (ValidMultiplex submaps)) single x))

      pub numbers_next : r ≡ true → Numbers submaps n cells (i + 1)
      numbers_next e =
          let g = f.room in
          record {
            within = omega arith;
            room = f.room;
            left = rows_next multiplex_row (ValidMultiplex submaps) 1 multiplex_wide n cells i f.left h (omega arith) (subst (RowOf multiplex_row (ValidMultiplex submaps)) (sym single) (said.0 e));
          }

    pub numbers_end : n ≤ i → {r : Bool} → (r ≡ true) ↔ Zeros (drop n cells) → (r ≡ true) ↔ Encodes multiplex_row (ValidMultiplex submaps) n cells
    numbers_end h said =
        let s = rows_end multiplex_row (ValidMultiplex submaps) 1 multiplex_wide n cells i f.left f.within h in
        let e : drop (1 * n) cells ≡ drop n cells = ap (λ (k : ℕ). drop k cells) (one-mul n) in
        ((λ a. s.1 (subst Zeros (sym e) (said.0 a))), (λ b. said.1 (subst Zeros e (s.0 b))))

-- how many multiplex numbers there are
module _ (submaps channels : ℕ) where
  pub count_none : submaps ≤ 1 → MultiplexCount submaps channels 0
  count_none h = record { counted = λ m c e. let l = c.submaps.low in ap length (c.no_multiplex (omega arith)) }

  pub count_each : 1 < submaps → MultiplexCount submaps channels channels
  count_each h = record { counted = λ m c e. c.some_multiplex (omega arith) }

  -- there is such a number
  some_count : (count : ℕ) × MultiplexCount submaps channels count
  some_count = ⊎_elim (λ h. (channels, count_each h)) (λ h. (0, count_none h)) (lt_or_le 1 submaps)

  -- and which one it is
  module _ {count : ℕ} (n : MultiplexCount submaps channels count) (low : 1 ≤ submaps) (high : submaps ≤ 16) where
    abbrev with_numbers : List ℕ → Mapping
    with_numbers l = record { couplings = []; multiplex = l; submaps = replicate submaps no_submap }

    carried : (l : List ℕ) → (submaps ≡ 1 → l ≡ []) → (2 ≤ submaps → length l ≡ channels) → length l ≡ count
    carried l none each =
        let e : length (replicate submaps no_submap) ≡ submaps = length-replicate submaps no_submap in
        n.counted (with_numbers l) (record {
          couplings = omega arith;
          submaps = record { low = omega arith; high = omega arith };
          no_multiplex = λ h. none (omega arith);
          some_multiplex = λ h. each (omega arith);
        }) e

    is_none : submaps ≡ 1 → count ≡ 0
    is_none e = sym (carried [] (λ h. refl) (λ h. absurd (omega arith)))

    is_each : 2 ≤ submaps → count ≡ channels
    is_each h =
        let e : length (replicate {A = ℕ} channels 0) ≡ channels = length-replicate channels _ in
        sym (carried (replicate channels 0) (λ g. absurd (omega arith)) (λ g. e)) ∙ e

    pub count_most : channels ≤ 255 → count ≤ 256
    count_most h = ⊎_elim (λ g. let e = is_each g in omega arith) (λ g. let e = is_none (omega arith) in omega arith) (lt_or_le 1 submaps)

-- the row of a mapping, part by part
pub record Parts (known : Known) (cells : List ℕ) (steps k count : ℕ) : Type 0 where
  pub few_steps : steps ≤ 256
  pub some_submap : 1 ≤ k
  pub few_submaps : k ≤ 16
  pub zero : get_or cells 3 0 ≡ 0
  pub couplings : Encodes coupling_row (Coupling11 known.channels) steps (take couplings_room (drop 4 cells))
  pub multiplex : Encodes multiplex_row (ValidMultiplex k) count (take 256 (drop 516 cells))
  pub submaps : Encodes submap_row (ValidSubmap known) k (take 32 (drop 772 cells))

-- a mapping put together from valid parts is valid
valid_made : (known : Known) (cs : List Coupling) (ms : List ℕ) (ss : List Submap) (steps submaps count : ℕ) → length cs ≡ steps → steps ≤ 256
    → Each (Coupling11 known.channels) cs → MultiplexCount submaps known.channels count → length ms ≡ count → Each (ValidMultiplex submaps) ms
    → length ss ≡ submaps → 1 ≤ submaps → submaps ≤ 16 → Each (ValidSubmap known) ss → ValidMapping known (record { couplings = cs; multiplex = ms; submaps = ss })
valid_made known cs ms ss steps submaps count nc h vc n nm vm ns low high vs =
    record {
      carried = record {
        couplings = omega arith;
        submaps = record { low = omega arith; high = omega arith };
        no_multiplex = λ e. length_zero ms (nm ∙ is_none submaps known.channels n low high (omega arith));
        some_multiplex = λ e. nm ∙ is_each submaps known.channels n low high (omega arith);
      };
      rule11 = record { couplings = vc; multiplex = rw ns (each_all submaps ms vm); submaps = vs };
    }

four : (cells : List ℕ) → 4 ≤ length cells → take 4 cells ≡ get_or cells 0 0 ∷ get_or cells 1 0 ∷ get_or cells 2 0 ∷ get_or cells 3 0 ∷ []
four [] h = absurd (omega arith)
four (a ∷ []) h = absurd (omega arith)
four (a ∷ b ∷ []) h = absurd (omega arith)
four (a ∷ b ∷ c ∷ []) h = absurd (omega arith)
four (a ∷ b ∷ c ∷ d ∷ l) h = refl

module _ (known : Known) (few : known.channels ≤ 255) where
  -- a row has its parts
  taken : (m : Mapping) → ValidMapping known m → (cells : List ℕ) → cells ≡ mapping_row m → {count : ℕ} → MultiplexCount (get_or cells 2 0) known.channels count
      → Parts known cells (get_or cells 0 0 + 256 * get_or cells 1 0) (get_or cells 2 0) count
  unfolding mapping_row
  taken m v cells w {count} number =
      let x = rows coupling_row m.couplings in
      let y = map suc m.multiplex in
      let z = rows submap_row m.submaps in
      let n = length m.couplings in
      let k = length m.submaps in
      let at : (i : ℕ) → get_or cells i 0 ≡ get_or (mapping_row m) i 0 = λ i. ap (λ (l : List ℕ). get_or l i 0) w in
      let e0 : get_or cells 0 0 ≡ n % 256 = at 0 in
      let e1 : get_or cells 1 0 ≡ n / 256 = at 1 in
      let e2 : get_or cells 2 0 ≡ k = at 2 in
      let e : get_or cells 0 0 + 256 * get_or cells 1 0 ≡ n = omega arith in
      let a = v.carried.couplings in
      let b = v.carried.submaps.low in
      let c = v.carried.submaps.high in
      let lx = couplings_length m.couplings in
      let lz = submaps_length m.submaps in
      let ly : length (rows multiplex_row m.multiplex) ≡ length m.multiplex = ap length (multiplex_rows m.multiplex) ∙ multiplex_length m.multiplex in
      let my = multiplex_most known m (omega arith) v in
      let all-below : Each (ValidMultiplex (get_or cells 2 0)) m.multiplex = rw e2 (all_each k m.multiplex v.rule11.multiplex) in
      record {
        few_steps = omega arith;
        some_submap = omega arith;
        few_submaps = omega arith;
        zero = at 3;
        couplings =
            rw e (encodes_pad coupling_row (Coupling11 known.channels) n couplings_room m.couplings (take couplings_room (drop 4 cells))
            (ap (λ (l : List ℕ). take couplings_room (drop 4 l)) w ∙ part_couplings (n % 256) (n / 256) k 0 x y z) refl v.rule11.couplings (omega arith));
        multiplex =
            encodes_pad multiplex_row (ValidMultiplex (get_or cells 2 0)) count 256 m.multiplex (take 256 (drop 516 cells))
            (ap (λ (l : List ℕ). take 256 (drop 516 l)) w ∙ part_multiplex (n % 256) (n / 256) k 0 x y z ∙ ap (pad 256) (sym (multiplex_rows m.multiplex)))
            (number.counted m v.carried (sym e2)) all-below (omega arith);
        submaps =
            rw e2 (encodes_pad submap_row (ValidSubmap known) k 32 m.submaps (take 32 (drop 772 cells))
            (ap (λ (l : List ℕ). take 32 (drop 772 l)) w ∙ ap (take 32) (part_submaps (n % 256) (n / 256) k 0 x y z) ∙ take_all 32 (pad 32 z) (let l = length-pad 32 z in omega arith))
            refl v.rule11.submaps (omega arith));
      }

  -- parts that stand make a row
  module _ (cells : List ℕ) (long : length cells ≡ mapping_width) where
    split : cells ≡ take 4 cells ++ (take couplings_room (drop 4 cells) ++ (take 256 (drop 516 cells) ++ take 32 (drop 772 cells)))
    split =
        let d = length-drop 772 cells in
        let a : drop 772 cells ≡ take 32 (drop 772 cells) = sym (take_all 32 (drop 772 cells) (omega arith)) in
        let b : drop 516 cells ≡ take 256 (drop 516 cells) ++ take 32 (drop 772 cells) =
        sym (take-append-drop 256 (drop 516 cells)) ∙ ap (λ (l : List ℕ). take 256 (drop 516 cells) ++ l) (drop-drop 256 516 cells ∙ a) in
        let c : drop 4 cells ≡ take couplings_room (drop 4 cells) ++ (take 256 (drop 516 cells) ++ take 32 (drop 772 cells)) =
        sym (take-append-drop couplings_room (drop 4 cells)) ∙ ap (λ (l : List ℕ). take couplings_room (drop 4 cells) ++ l) (drop-drop couplings_room 4 cells ∙ b) in
        sym (take-append-drop 4 cells) ∙ ap (λ (l : List ℕ). take 4 cells ++ l) c

    made : get_or cells 0 0 < 256 → {count : ℕ} → MultiplexCount (get_or cells 2 0) known.channels count
        → Parts known cells (get_or cells 0 0 + 256 * get_or cells 1 0) (get_or cells 2 0) count → RowOf mapping_row (ValidMapping known) cells
    unfolding mapping_row
    made byte n p =
        let cs = p.couplings.items in
        let ms = p.multiplex.items in
        let ss = p.submaps.items in
        let nc = p.couplings.number in
        let nm = p.multiplex.number in
        let ns = p.submaps.number in
        let l4 = length-drop 4 cells in
        let l516 = length-drop 516 cells in
        let l772 = length-drop 772 cells in
        let lc : length (take couplings_room (drop 4 cells)) ≡ couplings_room = length-take-le couplings_room (drop 4 cells) (omega arith) in
        let lm : length (take 256 (drop 516 cells)) ≡ 256 = length-take-le 256 (drop 516 cells) (omega arith) in
        let ls : length (take 32 (drop 772 cells)) ≡ 32 = length-take-le 32 (drop 772 cells) (omega arith) in
        let ec : take couplings_room (drop 4 cells) ≡ pad couplings_room (rows coupling_row cs) = p.couplings.written ∙ ap (λ (k : ℕ). pad k (rows coupling_row cs)) lc in
        let em : take 256 (drop 516 cells) ≡ pad 256 (map suc ms) = p.multiplex.written ∙ (λ j. pad (lm j) (multiplex_rows ms j)) in
        let es : take 32 (drop 772 cells) ≡ pad 32 (rows submap_row ss) = p.submaps.written ∙ ap (λ (k : ℕ). pad k (rows submap_row ss)) ls in
        let h = p.few_steps in
        let low : get_or cells 0 0 ≡ length cs % 256 = omega arith in
        let high : get_or cells 1 0 ≡ length cs / 256 = omega arith in
        let number : get_or cells 2 0 ≡ length ss = sym ns in
        let heads : take 4 cells ≡ length cs % 256 ∷ length cs / 256 ∷ length ss ∷ 0 ∷ [] = four cells (omega arith) ∙ (λ j. low j ∷ high j ∷ number j ∷ p.zero j ∷ []) in
        record {
          item = record { couplings = cs; multiplex = ms; submaps = ss };
          valid = valid_made known cs ms ss _ _ _ nc h p.couplings.valid n nm p.multiplex.valid ns p.some_submap p.few_submaps p.submaps.valid;
          written = split ∙ (λ j. heads j ++ (ec j ++ (em j ++ es j)));
        }

    module _ (byte : get_or cells 0 0 < 256) {steps : ℕ} (es : steps ≡ get_or cells 0 0 + 256 * get_or cells 1 0) {count : ℕ} (n : MultiplexCount (get_or cells 2 0) known.channels count) where
      pub parts_of : RowOf mapping_row (ValidMapping known) cells ↔ Parts known cells steps (get_or cells 2 0) count
      parts_of = rw es ((λ r. taken r.item r.valid cells r.written n), (λ p. made byte n p))

-- as the code asks them
module _ (known : Known) (cells : List ℕ) (long : length cells ≡ mapping_width) (few : known.channels ≤ 255) {steps : ℕ}
    (es : (steps ≡ get_or cells 0 0 + 256 * get_or cells 1 0) × (get_or cells 0 0 < 256)) where
  abbrev Row : Type 0
  Row = RowOf mapping_row (ValidMapping known) cells

  ps : Row → Parts known cells steps (get_or cells 2 0) (some_count (get_or cells 2 0) known.channels).0
  ps = (parts_of known few cells long es.1 es.0 (some_count (get_or cells 2 0) known.channels).1).0

  pub steps_many : 256 < steps → (false ≡ true) ↔ RowOf mapping_row (ValidMapping known) cells
  steps_many h = iff_false (λ r. let a = (ps r).few_steps in omega arith)

  pub submaps_none : get_or cells 2 0 < 1 → (false ≡ true) ↔ RowOf mapping_row (ValidMapping known) cells
  submaps_none h = iff_false (λ r. let a = (ps r).some_submap in omega arith)

  pub submaps_many : 16 < get_or cells 2 0 → (false ≡ true) ↔ RowOf mapping_row (ValidMapping known) cells
  submaps_many h = iff_false (λ r. let a = (ps r).few_submaps in omega arith)

  pub place_used : (get_or cells 3 0 ≡ 0 → ⊥) → (false ≡ true) ↔ RowOf mapping_row (ValidMapping known) cells
  place_used h = iff_false (λ r. h (ps r).zero)

  module _ {r₁ : Bool} (said₁ : (r₁ ≡ true) ↔ Encodes coupling_row (Coupling11 known.channels) steps (take couplings_room (drop 4 cells))) where
    pub couplings_wrong : r₁ ≡ false → (false ≡ true) ↔ RowOf mapping_row (ValidMapping known) cells
    couplings_wrong e = iff_false (λ r. not_said said₁ e (ps r).couplings)

    module _ {count : ℕ} (n : MultiplexCount (get_or cells 2 0) known.channels count) {r₂ : Bool}
        (said₂ : (r₂ ≡ true) ↔ Encodes multiplex_row (ValidMultiplex (get_or cells 2 0)) count (take 256 (drop 516 cells))) where
      pub multiplex_wrong : r₂ ≡ false → (false ≡ true) ↔ RowOf mapping_row (ValidMapping known) cells
      multiplex_wrong e = iff_false (λ r. not_said said₂ e ((parts_of known few cells long es.1 es.0 n).0 r).multiplex)

      pub row_right : steps ≤ 256 → 1 ≤ get_or cells 2 0 → get_or cells 2 0 ≤ 16 → get_or cells 3 0 ≡ 0 → r₁ ≡ true → r₂ ≡ true → {r₃ : Bool}
          → (r₃ ≡ true) ↔ Encodes submap_row (ValidSubmap known) (get_or cells 2 0) (take 32 (drop 772 cells)) → (r₃ ≡ true) ↔ RowOf mapping_row (ValidMapping known) cells
      row_right a b c z e₁ e₂ said₃ =
          let q = parts_of known few cells long es.1 es.0 n in (
            (λ e. q.1 (record { few_steps = a; some_submap = b; few_submaps = c; zero = z; couplings = said₁.0 e₁; multiplex = said₂.0 e₂; submaps = said₃.0 e })),
            (λ r. said₃.1 (ps r).submaps),
          )

-- the width of a part, as the code computes it
pub part_width : (a w : ℕ) → a + w - a ≡ w
part_width a w = omega arith

-- the loop over the rows: i are found right
pub record Finding (known : Known) (n : ℕ) (cells : List ℕ) (i : ℕ) : Type 0 where
  pub within : i ≤ n
  pub room : mapping_width * n ≤ length cells
  pub left : Left mapping_row (ValidMapping known) mapping_width mapping_wide n cells i

module _ (known : Known) (n : ℕ) (cells : List ℕ) where
  pub too_short : length cells < mapping_width * n → (false ≡ true) ↔ MappingsRecognised known n cells
  too_short h = iff_false (λ s. let l = encodes_long mapping_row (ValidMapping known) mapping_width mapping_wide n cells s in omega arith)

  pub find_start : mapping_width * n ≤ length cells → Finding known n cells 0
  find_start h = record { within = omega arith; room = h; left = rows_start mapping_row (ValidMapping known) mapping_width mapping_wide n cells }

  module _ (i : ℕ) (f : Finding known n cells i) where
    -- w is the row's width as the code computes it
    module _ (h : i < n) {r : Bool} {w : ℕ} (said : (r ≡ true) ↔ RowOf mapping_row (ValidMapping known) (take w (drop (mapping_width * i) cells))) (e : w ≡ mapping_width) where
      of_row : (r ≡ true) ↔ RowOf mapping_row (ValidMapping known) (take mapping_width (drop (mapping_width * i) cells))
      of_row = rw e at said

      pub find_stop : not r ≡ true → (false ≡ true) ↔ MappingsRecognised known n cells
      find_stop f' = rows_stop mapping_row (ValidMapping known) mapping_width mapping_wide n cells i f.left h (λ x. not_said of_row (not-true r f') x)

      pub find_next : not r ≡ false → Finding known n cells (i + 1)
      find_next f' =
          let g = f.room in
          record { within = omega arith; room = f.room; left = rows_next mapping_row (ValidMapping known) mapping_width mapping_wide n cells i f.left h (omega arith) (of_row.0 (not-false r f')) }

    pub find_end : n ≤ i → {r : Bool} → (r ≡ true) ↔ Zeros (drop (mapping_width * n) cells) → (r ≡ true) ↔ MappingsRecognised known n cells
    find_end h said =
        let s = rows_end mapping_row (ValidMapping known) mapping_width mapping_wide n cells i f.left f.within h in
        ((λ e. s.1 (said.0 e)), (λ a. said.1 (s.0 a)))

pub ruleset recognise_laws = (rules, too_short, find_start, find_end)
