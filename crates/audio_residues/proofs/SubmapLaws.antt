-- Laws of one submap's residue by the tables: the residue that was read, its digits, how much of it is read, and the places that the program does not keep.
-- Assumes nothing.
use Rattle.std.specs.Prelude.{Result}
use Prim.Native.Nat.{ℕ, ◌+◌, ◌-◌, ◌*◌, ◌^◌, ◌≤◌, ◌<◌}
use native.Mathlib.Omega.{arith}
use mathlib.Core.Bool.{Bool}
use mathlib.Core.List.{List}
use mathlib.Core.Path.{◌≡◌, refl, ap, subst, ◌∙◌}
use lib.ListN.{length, get_or}
use Rattle.book.specs.Layout.{dimensions_at}
use Rattle.book_codeword.specs.Inner.Stored.{lengths_in, dimensions_in}
use Rattle.residue.specs.Content.{Residue}
use Rattle.residue.specs.Inner.Decode.{head_at}
use Rattle.residue.specs.Inner.Heads.{head_of}
use Rattle.residue.specs.declared.head.Head.{Head}
use Rattle.mapping.specs.Content.{Mapping}
use Rattle.mapping.specs.Layout.{mapping_width, submaps_place}
use Rattle.mapping_row.specs.Inner.Readable.{mapping_in}
use Rattle.requests.specs.Requests.{Requests}
use Rattle.requests.specs.Run.{read, run}
use Rattle.residue_requests.specs.Requests.{residue_requests, partition_count}
use Rattle.residue_requests.specs.Inner.Unplaced.{flat_residue}
use Rattle.residue_requests.proofs.UnplacedLaws.{residue_run_lem}
use Rattle.codeword_list.specs.declared.Progress.{Progress}
use Rattle.codeword_list.specs.declared.Stop.{Stop}
use Rattle.codeword_list.specs.Inner.ListRead.{ReadIntoList}
use Rattle.codeword_list.specs.Inner.WordsRun.{words_run}
use Rattle.codeword_list.proofs.Laws.{whole, Alike, read_alike}
use Rattle.residue_pass.specs.Inner.Readable.{residue_in, residue_by, ResidueReadable, PassReadable}
use Rattle.residue_pass.proofs.ReadableLaws.{residue_by_head}
use Rattle.audio.specs.Channels.{channels_of, live_of, vector_size, vector_count, submap_requests}
use Rattle.audio_channels.specs.Inner.Live.{used_bools}
use Rattle.audio_channels.specs.Inner.Extents.{head_residue, ExtentIs}
use Rattle.audio_residues.specs.Inner.Reading.{residue_number, submap_run, ResiduesReadable}
use Rattle.audio_channels.proofs.LiveLaws.{used_long}

-- the digits of a class word
module _ {books lengths codewords plans : List ℕ} {n : ℕ} {h : Head} (p : ResidueReadable books lengths codewords plans n h) {digits : ℕ}
    (d : digits ≡ dimensions_at books h.classbook) where
  pub digits_low : 1 ≤ digits
  unfolding dimensions_in
  digits_low = let k = p.class_dimensions in omega arith

  pub top_fits : h.classifications ^ (digits - 1) < 4294967296
  unfolding dimensions_in
  top_fits = let k = p.power in rw d k

  pub pass_readable : {top : ℕ} → top ≡ h.classifications ^ (digits - 1) → PassReadable books lengths codewords plans n h digits top
  unfolding dimensions_in
  pass_readable q = record { readable = p; digits_are = d; top_is = q }

module _ (half : ℕ) (m : Mapping) (live : List Bool) (submap : ℕ) (h : Head) (plans : List ℕ) (n : ℕ) where
  unfoldable vectors_of : Residue → ℕ
  vectors_of r = vector_count r (live_of m live submap)

  unfoldable partitions_of : Residue → ℕ
  partitions_of r = partition_count r (vector_size r half (channels_of m (length live) submap))

  vectors_by : vectors_of (head_residue h) ≡ vectors_of (residue_by h plans n)
  unfolding vectors_of vector_count residue_by
  vectors_by = refl

  partitions_by : partitions_of (head_residue h) ≡ partitions_of (residue_by h plans n)
  unfolding partitions_of partition_count vector_size residue_by
  partitions_by = refl

  -- a submap's tree without places
  module _ (D : ℕ → ℕ) (residues : List ℕ) (e : head_of h ≡ head_at residues n) {channels vectors partitions : ℕ} (l : length live ≡ channels)
      (x : ExtentIs half m channels live submap h vectors partitions) where
    flat_same : flat_residue D (residue_by h plans n) vectors partitions
        ≡ flat_residue D (residue_in residues plans n) (vectors_of (residue_in residues plans n)) (partitions_of (residue_in residues plans n))
    unfolding vectors_of partitions_of
    flat_same =
        let s = residue_by_head h residues plans n e in
        let v : vectors ≡ vectors_of (residue_in residues plans n) = x.vectors_are ∙ vectors_by ∙ ap vectors_of s in
        let p : partitions ≡ partitions_of (residue_in residues plans n) = rw (← l) at x.partitions_are ∙ partitions_by ∙ ap partitions_of s in
        λ j. flat_residue D (s j) (v j) (p j)

    pub submap_read : (books lengths : List ℕ) (packet : List ℕ) (at : ℕ) → D ≡ dimensions_in books → n ≡ residue_number m submap
        → {entry : List ℕ} {c : ℕ} {r : Result Progress Stop} {exit : List ℕ}
        → ReadIntoList (words_run books lengths (flat_residue D (residue_by h plans n) vectors partitions) packet at) entry c r exit
        → ReadIntoList (submap_run books lengths residues plans half m live submap packet at) entry c r exit
    unfolding submap_requests vectors_of partitions_of
    submap_read books lengths packet at b q {entry} {c} {r} {exit} w =
        let L = lengths_in books lengths in
        let r₀ = residue_in residues plans n in
        let same = residue_run_lem submap D L r₀ (vectors_of r₀) (partitions_of r₀) packet at in
        let v = vectors_of r₀ in
        let p = partitions_of r₀ in
        let alike : Alike (words_run books lengths (flat_residue D r₀ v p) packet at) (words_run books lengths (residue_requests submap D r₀ v p) packet at) =
        record { numbers_are = same.numbers; position_is = same.position; came = ap whole same.value } in
        let w₁ = subst (λ (t : Requests Unit). ReadIntoList (run (read L) t packet at) entry c r exit) flat_same w in
        rw (← b, ← q) (read_alike alike w₁)

-- by tables of which enough is known
module _ (books lengths codewords residues plans mappings flags : List ℕ) (channels mapping half : ℕ)
    (p : ResiduesReadable books lengths codewords residues plans mappings flags channels mapping half) where
  module _ (submap : ℕ) (l : submap < length (mapping_in mappings mapping).submaps) {n : ℕ}
      (q : n ≡ get_or mappings (mapping_width * mapping + (submaps_place + 2 * submap + 1)) 0) where
    number_is : n ≡ residue_number (mapping_in mappings mapping) submap
    unfolding residue_number
    number_is = q ∙ p.mapping_is.residue submap l

    module _ (h : Head) (e : head_of h ≡ head_at residues n) where
      pub residue_readable : ResidueReadable books lengths codewords plans n h
      residue_readable = rw number_is (p.residue_is submap l h (rw number_is at e))

      pub size_low : 1 ≤ h.size
      size_low = residue_readable.size_low

      pub residue_read : (packet : List ℕ) (at : ℕ) {vectors partitions : ℕ}
          → ExtentIs half (mapping_in mappings mapping) channels (used_bools channels flags) submap h vectors partitions
          → {entry : List ℕ} {c : ℕ} {r : Result Progress Stop} {exit : List ℕ}
          → ReadIntoList (words_run books lengths (flat_residue (dimensions_in books) (residue_by h plans n) vectors partitions) packet at) entry c r exit
          → ReadIntoList (submap_run books lengths residues plans half (mapping_in mappings mapping) (used_bools channels flags) submap packet at) entry c r exit
      residue_read packet at x w =
          submap_read half (mapping_in mappings mapping) (used_bools channels flags) submap h plans n (dimensions_in books) residues e
          (used_long channels flags p.flags-length p.channels_few) x books lengths packet at refl number_is w
