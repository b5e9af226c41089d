-- Laws of partitions by class words, one partition of each vector after the other, as the code asks them. Assumes nothing.
use Rattle.std.specs.Prelude.{Result, Ok, Err}
use Prim.Native.Nat.{ℕ, zero, suc, ◌+◌, ◌-◌, ◌/◌, ◌^◌, ◌≤◌, ◌<◌}
use native.Mathlib.Omega.{arith}
use native.Mathlib.Nat.{mul-div_cancel, pow-suc}
use borrow.Author.Rules.{rules}
use mathlib.Core.List.{List, ◌++◌}
use mathlib.Core.Path.{◌≡◌, refl, ap, ◌∙◌}
use lib.ListN.{length}
use lib.Seq.{sets, length-sets}
use Rattle.bits.specs.Inner.Cursors.{position}
use Rattle.book_codeword.specs.Inner.Stored.{lengths_in, dimensions_in}
use Rattle.residue.specs.declared.head.Head.{Head}
use Rattle.requests.specs.Run.{read, Run, run}
use Rattle.requests.specs.Inner.Parts.{joined}
use Rattle.requests.proofs.Laws.{run_bind}
use Rattle.residue_requests.specs.Requests.{classes_of}
use Rattle.residue_requests.specs.Inner.Unplaced.{flat_partitions}
use Rattle.residue_requests.specs.Inner.Again.{entries_from}
use Rattle.residue_requests.proofs.AgainLaws.{numbers, entries_same}
use Rattle.residue_requests.proofs.PassLaws.{partitions_append}
use Rattle.codeword_list.specs.declared.Progress.{Progress}
use Rattle.codeword_list.specs.declared.Stop.{Stop}
use Rattle.codeword_list.specs.Inner.ListRead.{ReadIntoList}
use Rattle.codeword_list.proofs.Laws.{ReadSoFar, sofar_start, sofar_next, sofar_last, sofar_fits, joined_stop, read_nothing, read_length}
use Rattle.residue_pass.specs.Inner.Readable.{residue_by, group_classes, ResidueReadable}
use Rattle.residue_pass.specs.Inner.PassRuns.{partitions_run}
use Rattle.residue_pass.proofs.PartitionLaws.{get_before, across_run}

-- class words stay in the list where codewords are put after them
pub entries_kept : (vs l : List ℕ) (c at n : ℕ) → at + n ≤ c → entries_from (sets l c vs) at n ≡ entries_from l at n
entries_kept vs l c at n h = entries_same l (sets l c vs) c (λ i k. get_before vs l c i k) (length-sets l c vs) at n h

-- what the next digit is divided by
pub power_down : (c unused d e : ℕ) → 1 ≤ c → d ≡ c ^ unused → e ≡ d / c → 0 < unused → e ≡ c ^ (unused - 1)
power_down c zero d e h p q g = absurd (omega arith)
power_down c (suc unused) d e h p q g = let z : suc unused - 1 ≡ unused = omega arith in q ∙ rw (p, pow-suc, z) (mul-div_cancel (c ^ unused) h)

-- `left` partitions of each vector, by the class words that stood in the list `entered` from place `at` on, of which `unused` digits are left
abbrev pub rows_run : List ℕ → List ℕ → List ℕ → ℕ → Head → ℕ → ℕ → List ℕ → ℕ → ℕ → ℕ → List ℕ → ℕ → Run Unit
rows_run books lengths plans n h pass unused entered at live left s k =
    partitions_run books lengths plans n h pass (group_classes (residue_by h plans n) unused (entries_from entered at live) left) s k

-- the loop's state
pub record RowsLeft (s books lengths codewords plans : List ℕ) (n : ℕ) (h : Head) (at live digits rows pass : ℕ) (entered : List ℕ) (from : Progress) (out : List ℕ)
    (next : Progress) (unused divisor : ℕ) : Type 0 where
  pub readable : ResidueReadable books lengths codewords plans n h
  pub pass_below : pass < 8
  pub class_words_is : at + live ≤ from.count
  pub low : digits - rows ≤ unused
  pub power : 0 < unused → divisor ≡ h.classifications ^ (unused - 1)
  pub long : length out ≡ length entered
  pub sofar : ReadSoFar (rows_run books lengths plans n h pass digits entered at live rows s (position from.at)) entered from.count
      (rows_run books lengths plans n h pass unused entered at live (unused - (digits - rows)) s (position next.at)) out next.count

module _ {s books lengths codewords plans : List ℕ} {n : ℕ} {h : Head} {at live digits rows pass : ℕ} {entered : List ℕ} {from : Progress} where
  pub rows_start : {top : ℕ} → ResidueReadable books lengths codewords plans n h → pass < 8 → at + live ≤ from.count → from.count ≤ length entered → rows ≤ digits
      → top ≡ h.classifications ^ (digits - 1) → RowsLeft s books lengths codewords plans n h at live digits rows pass entered from entered from digits top
  rows_start l p t r d e =
      let z : digits - (digits - rows) ≡ rows = omega arith in
      record { readable = l; pass_below = p; class_words_is = t; low = omega arith; power = λ _. e; long = refl; sofar = rw z (sofar_start r) }

  module _ {out : List ℕ} {next : Progress} {unused divisor : ℕ}
      (g : RowsLeft s books lengths codewords plans n h at live digits rows pass entered from out next unused divisor) where
    abbrev left : ℕ
    left = unused - (digits - rows)

    pub rows_fits : next.count ≤ length out
    rows_fits = sofar_fits g.sofar

    pub rows_class_words : at + live ≤ next.count
    rows_class_words = let t = g.class_words_is in let e = g.sofar.number in omega arith

    pub rows_done : unused ≤ digits - rows
        → ReadIntoList (rows_run books lengths plans n h pass digits entered at live rows s (position from.at)) entered from.count (Ok next) out
    unfolding flat_partitions group_classes run
    rows_done z = let y : left ≡ 0 = omega arith in sofar_last (rw y at g.sofar) (read_nothing refl rows_fits refl)

    module _ (more : digits - rows < unused) {after : ℕ} (b : after ≡ unused - 1) where
      pub rows_power : divisor ≡ h.classifications ^ after
      rows_power = let l = g.low in rw b (g.power (omega arith))

      abbrev first : List ℕ
      first = classes_of (residue_by h plans n) after (entries_from out at live)

      abbrev later : List ℕ
      later = group_classes (residue_by h plans n) after (entries_from entered at live) (left - 1)

      rows_rest : group_classes (residue_by h plans n) unused (entries_from entered at live) left ≡ first ++ later
      unfolding group_classes
      rows_rest =
          let l = g.low in
          let y : unused ≡ suc after = omega arith in
          let z : left ≡ suc (left - 1) = omega arith in
          let same = entries_kept (numbers g.sofar.items) entered from.count at live g.class_words_is in
          let kept : entries_from out at live ≡ entries_from entered at live = ap (λ (t : List ℕ). entries_from t at live) g.sofar.list ∙ same in
          let words = entries_from entered at live in
          rw kept (ap (λ (u : ℕ). group_classes (residue_by h plans n) u words left) y ∙ ap (group_classes (residue_by h plans n) (suc after) words) z)

      abbrev later_run : Unit {0} → ℕ → Run Unit
      later_run _ m = partitions_run books lengths plans n h pass later s m

      rows_joined : rows_run books lengths plans n h pass unused entered at live left s (position next.at)
          ≡ joined (across_run books lengths plans n h pass after out at live s (position next.at)) later_run
      rows_joined =
          let r = residue_by h plans n in
          rw (rows_rest, partitions_append (dimensions_in books) r pass first later)
          (run_bind (read (lengths_in books lengths)) s (flat_partitions (dimensions_in books) r pass first) (λ _. flat_partitions (dimensions_in books) r pass later) (position next.at))

      module _ {x : Result Progress Stop} {exit : List ℕ} (q : ReadIntoList (across_run books lengths plans n h pass after out at live s (position next.at)) out next.count x exit) where
        pub rows_stop : {e : Stop} → x ≡ Err e
            → ReadIntoList (rows_run books lengths plans n h pass digits entered at live rows s (position from.at)) entered from.count (Err e) exit
        rows_stop e = sofar_last (rw rows_joined at g.sofar) (joined_stop later_run q _ e)

        pub rows_next : {p : Progress} → x ≡ Ok p → RowsLeft s books lengths codewords plans n h at live digits rows pass entered from exit p after (divisor / h.classifications)
        rows_next e =
            let z : after - (digits - rows) ≡ left - 1 = omega arith in
            let y = sofar_next g.sofar later_run rows_joined q e in
            let l = g.low in
            record {
              readable = g.readable;
              pass_below = g.pass_below;
              class_words_is = g.class_words_is;
              low = omega arith;
              power = power_down h.classifications after divisor _ g.readable.classes_low rows_power refl;
              long = read_length q ∙ g.long;
              sofar = rw z y.2;
            }

pub ruleset asked = (rules, rows_start, rows_fits, rows_class_words, rows_power, rows_done, rows_stop, rows_next)
