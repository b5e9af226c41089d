-- By tables that are sound, floors, residues and the whole body are those of the content. Assumes nothing.
use Prim.Native.Nat.{ℕ, ◌/◌, ◌≤◌, ◌<◌}
use native.Mathlib.Omega.{arith}
use mathlib.Core.List.{List, map}
use mathlib.Core.Path.{◌≡◌, ap, subst, ◌∙◌}
use lib.ListN.{length, get_or}
use Rattle.limits.specs.declared.Limits.{Limits}
use Rattle.book_codeword.specs.Inner.Stored.{lengths_in}
use Rattle.floor.specs.Content.{Floor, no_floor}
use Rattle.floor_values.specs.Inner.Stored.{floor_in}
use Rattle.residue.specs.Content.{no_residue}
use Rattle.residue_pass.specs.Inner.Readable.{residue_in}
use Rattle.mapping.specs.Content.{Mapping, no_submap, no_mapping}
use Rattle.mapping_row.specs.Inner.Readable.{mapping_in}
use Rattle.setup.specs.Content.{Setup, lengths_of, dimensions_of}
use Rattle.setup.specs.Layout.{Tables}
use Rattle.requests.specs.Requests.{Requests, bind, each}
use Rattle.requests.specs.Run.{read, run}
use Rattle.requests.specs.Values.{whole_values}
use Rattle.requests.proofs.Laws.{bind_same}
use Rattle.floor_requests.specs.Requests.{FloorRead, floor_requests}
use Rattle.setup_rows.specs.Inner.Rows.{RowsReadable}
use Rattle.audio.specs.declared.Head.{Head}
use Rattle.audio.specs.Head.{mode_at}
use Rattle.audio.specs.Channels.{submap_of, floor_number, floors_of, is_used, coupled, all_requests}
use Rattle.audio.specs.Packet.{mapping_of, channel_floors, residues_after}
use Rattle.audio.specs.Inner.Plain.{plain_body}
use Rattle.audio_floors.proofs.Agreement.{floors_agree}
use Rattle.audio_residues.proofs.RequestLaws.{same_residues}
use Rattle.audio_residues.specs.Inner.Reading.{residue_number}
use Rattle.audio_body.specs.declared.BodyRead.{BodyRead}
use Rattle.audio_body.specs.Inner.Body.{floors_in, residues_in, body_in, BodyIs, BodyReadable}

module _ {limits : Limits} {channels : ℕ} {t : Tables} {c : Setup} (x : RowsReadable limits channels t c) (few : limits.book_entries ≤ 65536) (h : Head) (set_up_is : h.mode < length c.modes) where
  -- the number of the mode's mapping
  abbrev number : ℕ
  number = (mode_at c.modes h.mode).mapping

  number_set_up : number < length c.mappings
  unfolding mode_at
  number_set_up = (x.modes h.mode set_up_is).mapping_set_up

  pub mapping_is : mapping_in t.mappings number ≡ mapping_of c h
  unfolding mapping_of
  mapping_is = (x.mappings number number_set_up).content

  -- of each channel its floor
  pub floors_are : floors_in t.mappings t.floors number channels ≡ channel_floors channels c h
  unfolding floors_of channel_floors mapping_of floor_number submap_of
  floors_are =
      let m = get_or c.mappings number no_mapping in
      let s = x.mappings number number_set_up in
      ap (λ (y : Mapping). floors_of (floor_in t.floors) y channels) s.content
      ∙ floors_agree (floor_in t.floors) (λ k. get_or c.floors k no_floor) m channels
      (λ j k. (x.floors few (floor_number m j) (s.floor_set_up (submap_of m j) (s.is.submap_set_up j k))).content)

  pub residues_are : (vs : List FloorRead)
      → residues_in t.books t.residues t.plans t.mappings number (h.blocksize / 2) vs ≡ residues_after c h vs
  unfolding residues_in residues_after mapping_of
  residues_are vs =
      let m = get_or c.mappings number no_mapping in
      let s = x.mappings number number_set_up in
      (λ i. all_requests (x.dimensions i) (residue_in t.residues t.plans) (h.blocksize / 2) (s.content i) (coupled (s.content i).couplings (map is_used vs)) 0 (s.content i).submaps)
      ∙ same_residues (dimensions_of c) (residue_in t.residues t.plans) (λ n. get_or c.residues n no_residue) (h.blocksize / 2) m (coupled m.couplings (map is_used vs)) 0 m.submaps
      (λ j k. (x.residues (get_or m.submaps j no_submap).residue (s.residue_set_up j k)).content)

  -- THE BODY
  pub body_is : body_in t.books t.floors t.residues t.plans t.mappings number channels (h.blocksize / 2) ≡ plain_body channels c h
  unfolding body_in plain_body
  body_is =
      ap (λ (fs : List Floor). bind (each floor_requests fs) (λ vs. residues_in t.books t.residues t.plans t.mappings number (h.blocksize / 2) vs)) floors_are
      ∙ bind_same (each floor_requests (channel_floors channels c h)) (λ vs. residues_in t.books t.residues t.plans t.mappings number (h.blocksize / 2) vs) (λ vs. residues_after c h vs) residues_are

  -- WHAT READING THE BODY ASKS OF THE TABLES
  pub body_readable : channels ≤ 255 → h.blocksize ≤ 8192
      → BodyReadable t.mappings t.floors t.residues t.plans t.books t.lengths t.codewords number channels (h.blocksize / 2)
  unfolding floor_number submap_of residue_number
  body_readable low high =
      let s = x.mappings number number_set_up in
      let e = s.content in
      record {
        floors_readable = record {
          mapping_readable = rw e s.is;
          floor = λ j k. rw e (x.floors few _ (s.floor_set_up _ (s.is.submap_set_up j k))).stored;
          x_list_there = λ j k. rw e (let f = x.floors few _ (s.floor_set_up _ (s.is.submap_set_up j k)) in record { count = f.x_count; list = f.x_list_there });
        };
        residue_is = rw e (λ j k q g. (x.residues _ (s.residue_set_up j k)).readable q g);
        channels_few = low;
        half_few = omega arith;
      }

  -- a body that was read by the tables is the content's
  pub body_content : (s : List ℕ) (k : ℕ) {r : BodyRead} {entry exit list list' : List ℕ}
      → BodyIs (run (read (lengths_in t.books t.lengths)) (body_in t.books t.floors t.residues t.plans t.mappings number channels (h.blocksize / 2)) s k)
      (floors_in t.mappings t.floors number channels)
      (whole_values (read (lengths_in t.books t.lengths)) floor_requests (floors_in t.mappings t.floors number channels) s k) channels (h.blocksize / 2) r entry exit list list'
      → BodyIs (run (read (lengths_of c)) (plain_body channels c h) s k) (channel_floors channels c h)
      (whole_values (read (lengths_of c)) floor_requests (channel_floors channels c h) s k) channels (h.blocksize / 2) r entry exit list list'
  body_content s k {r} {entry} {exit} {list} {list'} b =
      let body = body_is in
      let floors = floors_are in
      let lens = x.lengths in
      subst (λ (l : ℕ → List ℕ). BodyIs (run (read l) (plain_body channels c h) s k) (channel_floors channels c h) (whole_values (read l) floor_requests (channel_floors channels c h) s k) channels (h.blocksize / 2) r entry exit list list') lens
      (subst (λ (fs : List Floor). BodyIs (run (read (lengths_in t.books t.lengths)) (plain_body channels c h) s k) fs (whole_values (read (lengths_in t.books t.lengths)) floor_requests fs s k) channels (h.blocksize / 2) r entry exit list list') floors
      (subst (λ (q : Requests Unit). BodyIs (run (read (lengths_in t.books t.lengths)) q s k) (floors_in t.mappings t.floors number channels) (whole_values (read (lengths_in t.books t.lengths)) floor_requests (floors_in t.mappings t.floors number channels) s k) channels (h.blocksize / 2) r entry exit list list') body b))
