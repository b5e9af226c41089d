-- Bytes put one behind the other, as the code asks it. Assumes nothing.
use Prim.Native.Nat.{ℕ, ◌+◌, ◌≤◌, ◌<◌}
use native.Mathlib.Omega.{arith}
use mathlib.Core.List.{List, ◌++◌, append_assoc}
use mathlib.Core.Path.{◌≡◌, refl, sym, ◌∙◌, ap}
use lib.ListN.{length, length-append}
use lib.Seq.{sets}
use Rattle.reading.proofs.Tables.{sets_append}
use Rattle.identification.specs.declared.Identity.{Identity}
use Rattle.records.specs.declared.Answer.{Answer}
use Rattle.records.specs.declared.Answer.TheVariants.{Identified, SetUp, AudioRead, Refused, Unknown, TooLong}
use Rattle.record_lines.specs.Text.{text, decimal}
use Rattle.record_lines.specs.Lines.{words, line, torn_line, end_line}
use Rattle.record_lines.specs.Inner.Puts.{Put}
use Rattle.record_lines.proofs.Numbers.{short_decimal}

module _ {entry now : List ℕ} {at after most : ℕ} {bytes : List ℕ} (p : Put entry now at after most bytes) where
  -- other bytes behind them
  pub join : {last : List ℕ} {end more : ℕ} {others : List ℕ} → Put now last after end more others → Put entry last at end (most + more) (bytes ++ others)
  join {others = others} q =
      record {
        written = q.written ∙ (λ j. sets (p.written j) (p.place j) others) ∙ sym (sets_append bytes others entry at);
        long = q.long ∙ p.long;
        place = omega (arith, p.place, q.place, length-append bytes others);
        within = omega (arith, p.within, q.within);
      }

  -- the same bytes under another name, and another bound of how many they are
  pub known : {others : List ℕ} {more : ℕ} → bytes ≡ others → length others ≤ more → Put entry now at after more others
  known e l =
      record {
        written = p.written ∙ ap (sets entry at) e;
        long = p.long;
        place = p.place ∙ ap (λ (l : List ℕ). at + length l) e;
        within = omega (arith, p.place, ap length e, l);
      }

  pub known_most : {others : List ℕ} {more : ℕ} → bytes ≡ others → most ≤ more → Put entry now at after more others
  known_most e l = known e (omega (arith, p.place, p.within, ap length e, l))

-- what the contract of a whole line asks
pub ends : {entry exit : List ℕ} {at after : ℕ} {bytes : List ℕ} → Put entry exit at after 128 bytes
    → (exit ≡ sets entry at bytes) × ((after ≡ at + length bytes) × (after ≤ at + 128))
ends p = (p.written, (p.place, p.within))

-- a number of 32 bits behind a text has ten digits at the most
pub short_field : (front : List ℕ) (n : ℕ) → n < 4294967296 → length (front ++ decimal n) ≤ length front + 10
short_field front n h = omega (arith, length-append front (decimal n), short_decimal n h)

-- the words of each answer, as they are put
pub identified_words : (i : Identity) → (text " identity channels " ++ decimal i.channels ++ (text " rate " ++ decimal i.rate))
    ++ (text " blocks " ++ decimal i.blocksize0 ++ (text " " ++ decimal i.blocksize1)) ≡ words (Identified i)
unfolding words
identified_words i = simp append_assoc

pub set_up_words : (books modes : ℕ) → text " setup books " ++ decimal books ++ (text " modes " ++ decimal modes) ≡ words (SetUp books modes)
unfolding words
set_up_words books modes = simp append_assoc

pub audio-words : (block samples codewords : ℕ)
    → text " audio block " ++ decimal block ++ (text " samples " ++ decimal samples) ++ (text " words " ++ decimal codewords) ≡ words (AudioRead block samples codewords)
unfolding words
audio-words block samples codewords = simp append_assoc

module _ {entry exit : List ℕ} {at after : ℕ} {a : Answer} where
  pub identified : {i : Identity} → a ≡ Identified i → Put entry exit at after 74 (words (Identified i)) → Put entry exit at after 100 (words a)
  identified e p = known_most p (ap words (sym e)) (omega arith)

  pub set_up_is : {books modes : ℕ} → a ≡ SetUp books modes → Put entry exit at after 40 (words (SetUp books modes)) → Put entry exit at after 100 (words a)
  set_up_is e p = known_most p (ap words (sym e)) (omega arith)

  pub audio_read_lem : {block samples codewords : ℕ} → a ≡ AudioRead block samples codewords → Put entry exit at after 79 (words (AudioRead block samples codewords))
      → Put entry exit at after 100 (words a)
  audio_read_lem e p = known_most p (ap words (sym e)) (omega arith)

  pub refused : {number : ℕ} → a ≡ Refused number → Put entry exit at after 19 (text " refused " ++ decimal number) → Put entry exit at after 100 (words a)
  unfolding words
  refused e p = known_most p (ap words (sym e)) (omega arith)

  pub unknown : a ≡ Unknown → Put entry exit at after 13 (text " kind unknown") → Put entry exit at after 100 (words a)
  unfolding words
  unknown e p = known_most p (ap words (sym e)) (omega arith)

  pub too_long : a ≡ TooLong → Put entry exit at after 9 (text " too long") → Put entry exit at after 100 (words a)
  unfolding words
  too_long e p = known_most p (ap words (sym e)) (omega arith)

-- whole lines, as they are put
pub line_is : (n : ℕ) (a : Answer) → decimal n ++ words a ++ text "\n" ≡ line n a
unfolding line
line_is n a = refl

pub torn_is : (n : ℕ) → decimal n ++ text " torn\n" ≡ torn_line n
unfolding torn_line
torn_is n = refl

pub end_is : (n : ℕ) → text "end " ++ decimal n ++ text "\n" ≡ end_line n
unfolding end_line
end_is n = refl
