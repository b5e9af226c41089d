-- THE CALL THAT READS ONE CODEWORD, by tables that anyone hands in, as one equation of what was handed in (01, "Bits and books", "Reading"). A fault that no
-- field has carries place 0: 18, and 11 of a book's number that was handed in.
use Rattle.std.specs.Prelude.{ℕ, List, ltb, length}
use Rattle.reading.specs.Outcome.{refusal, Outcome, need}
use Rattle.limits.specs.declared.Limits.{Limits}
use Rattle.identification.specs.declared.Identity.{Identity}
use Rattle.codeword.specs.Codeword.{codeword}
use Rattle.setup.specs.Content.{Setup, lengths_of}
use Rattle.setup.specs.Layout.{Tables}
use Rattle.setup.specs.Later.{later_call}

-- one codeword of book b of a content, at bit k of the packet s: 11 where no such book is set up, else the entry with the position behind it, or the cut
unfoldable pub codeword_of : ℕ → List ℕ → ℕ → Setup → Outcome (ℕ × ℕ)
codeword_of b s k c = need (ltb b (length c.books)) (refusal 11 0) (codeword (lengths_of c b) s k)

-- ONE CODEWORD, by tables that anyone hands in
unfoldable pub codeword_call : Limits → Identity → Tables → ℕ → List ℕ → ℕ → Outcome (ℕ × ℕ)
codeword_call limits i t b s k = later_call limits i t (codeword_of b s k)
