-- IN SOUND TABLES EACH ROW IS ITS CONTENT, AND WHAT AN AUDIO PACKET IS READ WITH CAN BE READ. Assumes nothing.
use Prim.Native.Nat.{ℕ}
use mathlib.Core.Bool.{true}
use mathlib.Core.Path.{◌≡◌, subst}
use Rattle.limits.specs.declared.Limits.{Limits}
use Rattle.identification.specs.declared.Identity.{Identity}
use Rattle.setup.specs.Layout.{Tables}
use Rattle.setup.specs.Sound.{Sound}
use Rattle.setup.specs.SoundTest.{sound_test}
use Rattle.setup.specs.Inner.Decode.{decode_setup}
use Rattle.setup.proofs.DecodeLaws.{content_decoded}
use Rattle.setup.proofs.TestLaws.{test_tells}
use Rattle.setup_rows.specs.Inner.Rows.{RowsReadable}
use Rattle.setup_rows.proofs.BookLaws.{counts_sound, lengths_are, dimensions_all, book_sound, book_readable}
use Rattle.setup_rows.proofs.ResidueLaws.{residue_sound}
use Rattle.setup_rows.proofs.RestLaws.{floor_sound, mapping_sound, mode_sound}

-- of the content that the tables are the writing-out of
content_readable : {limits : Limits} {channels : ℕ} {t : Tables} (x : Sound limits channels t) → RowsReadable limits channels t x.content
content_readable x =
    record {
      counts = counts_sound x;
      lengths = lengths_are x;
      dimensions = dimensions_all x;
      books = book_sound x;
      readable = λ few b h. book_readable x b h few;
      floors = λ few n h. floor_sound x n h few;
      residues = residue_sound x;
      mappings = mapping_sound x;
      modes = mode_sound x;
    }

-- of the content that they decode to, which is the same
pub sound_readable : {limits : Limits} {channels : ℕ} {t : Tables} → Sound limits channels t → RowsReadable limits channels t (decode_setup t)
sound_readable {limits} {channels} {t} x = subst (RowsReadable limits channels t) (content_decoded x) (content_readable x)

-- THE THEOREM: where the test of soundness is true
pub rows_readable : (limits : Limits) (i : Identity) (t : Tables) → sound_test limits i t ≡ true → RowsReadable limits i.channels t (decode_setup t)
rows_readable limits i t e = sound_readable (test_tells.0 e).tables
