-- Laws of reading all residues: the submaps are as many as the table says, and the channels that are live are those of 01, "Audio order" 4. Assumes nothing.
use Rattle.std.specs.Prelude.{Result}
use Prim.Native.Nat.{ℕ, ◌+◌, ◌*◌, ◌≤◌, ◌<◌}
use native.Mathlib.Omega.{arith}
use mathlib.Core.Bool.{Bool}
use mathlib.Core.List.{List}
use mathlib.Core.Path.{◌≡◌, sym, ap, subst, ◌∙◌}
use lib.ListN.{length, get_or}
use Rattle.mapping.specs.Layout.{mapping_width}
use Rattle.mapping_row.specs.Inner.Readable.{mapping_in}
use Rattle.codeword_list.specs.declared.Progress.{Progress}
use Rattle.codeword_list.specs.declared.Stop.{Stop}
use Rattle.codeword_list.specs.Inner.ListRead.{ReadIntoList}
use Rattle.audio.specs.Channels.{coupled}
use Rattle.audio_channels.specs.Inner.Live.{used_bools, live_bytes}
use Rattle.audio_residues.specs.Inner.Reading.{submaps_run, ResiduesReadable}
use Rattle.audio_channels.proofs.LiveLaws.{used_long, coupled_long, used_bytes, bytes_long}

module _ (books lengths codewords residues plans mappings used : List ℕ) (channels mapping half : ℕ)
    (p : ResiduesReadable books lengths codewords residues plans mappings used channels mapping half) where
  abbrev live_now : List Bool
  live_now = coupled (mapping_in mappings mapping).couplings (used_bools channels used)

  live_long : length live_now ≡ channels
  live_long = coupled_long (mapping_in mappings mapping).couplings (used_bools channels used) ∙ used_long channels used p.flags-length p.channels_few

  -- how many submaps there are
  submap_count_is : {count : ℕ} → count ≡ get_or mappings (mapping_width * mapping + 2) 0 → count ≡ length (mapping_in mappings mapping).submaps
  submap_count_is e = e ∙ p.mapping_is.submaps

  module _ {count : ℕ} (e : count ≡ get_or mappings (mapping_width * mapping + 2) 0) {submap : ℕ} where
    pub submap_in : submap < count → submap < length (mapping_in mappings mapping).submaps
    submap_in h = let k = submap_count_is e in omega arith

    pub submap_end : count ≤ submap → length (mapping_in mappings mapping).submaps ≤ submap
    submap_end h = let k = submap_count_is e in omega arith

  module _ {live : List ℕ} (e : live ≡ live_bytes live_now) where
    pub live_readable : ResiduesReadable books lengths codewords residues plans mappings live channels mapping half
    live_readable =
        record {
          mapping_is = p.mapping_is;
          channels_few = p.channels_few;
          half_few = p.half_few;
          flags-length = rw e (bytes_long live_now);
          residue_is = p.residue_is;
        }

    live_are : used_bools channels live ≡ live_now
    live_are =
        let l = live_long in
        let few = p.channels_few in
        rw e (ap (λ (n : ℕ). used_bools n (live_bytes live_now)) (sym l) ∙ used_bytes live_now (omega arith))

    pub all_read : (packet : List ℕ) (at : ℕ) {entry : List ℕ} {c : ℕ} {r : Result Progress Stop} {exit : List ℕ}
        → ReadIntoList (submaps_run books lengths residues plans half (mapping_in mappings mapping) (used_bools channels live) 0 (mapping_in mappings mapping).submaps packet at) entry c r exit
        → ReadIntoList (submaps_run books lengths residues plans half (mapping_in mappings mapping) live_now 0 (mapping_in mappings mapping).submaps packet at) entry c r exit
    all_read packet at {entry} {c} {r} {exit} w =
        subst (λ (l : List Bool). ReadIntoList (submaps_run books lengths residues plans half (mapping_in mappings mapping) l 0 (mapping_in mappings mapping).submaps packet at) entry c r exit)
        live_are w
