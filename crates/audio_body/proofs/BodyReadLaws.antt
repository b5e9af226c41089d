-- The body of a packet by the tables, as the code asks it: floors, and then residues unless a floor was cut. Assumes nothing.
use Rattle.std.specs.Prelude.{Result, Ok, Err}
use Prim.Native.Nat.{ℕ, suc, ◌*◌, ◌≤◌}
use native.Mathlib.Omega.{arith}
use mathlib.Core.Bool.{Bool, true, false}
use mathlib.Core.List.{List, [], ◌∷◌, map}
use mathlib.Core.Option.{Option, none, some, some-injective}
use mathlib.Core.Path.{◌≡◌, refl, ap, sym, subst, ◌∙◌}
use lib.ListN.{length, length-map}
use Rattle.reading.specs.Least.{one}
use Rattle.reading.specs.Pad.{pad}
use Rattle.reading.specs.Reader.{Reader}
use Rattle.reading.specs.Tabulate.{tabulate}
use Rattle.reading.proofs.Pads.{length-pad}
use Rattle.reading.proofs.Tabulate.{tabulate-length}
use Rattle.bits.specs.Inner.Cursors.{position}
use Rattle.book_codeword.specs.Inner.Stored.{lengths_in, dimensions_in}
use Rattle.floor.specs.Content.{Floor}
use Rattle.floor_values.specs.Inner.Stored.{floor_in}
use Rattle.mapping_row.specs.Inner.Readable.{mapping_in}
use Rattle.residue_pass.specs.Inner.Readable.{residue_in}
use Rattle.requests.specs.Requests.{Request, Requests, done, bind, each}
use Rattle.requests.specs.Run.{read, Run, run}
use Rattle.requests.specs.Values.{whole_values}
use Rattle.requests.proofs.Laws.{run_bind}
use Rattle.requests.proofs.Values.{sequence}
use Rattle.floor_requests.specs.Requests.{FloorRead, floor_requests}
use Rattle.residue_requests.proofs.KindLaws.{both}
use Rattle.codeword_list.specs.declared.Progress.{Progress}
use Rattle.codeword_list.specs.declared.Stop.{Stop}
use Rattle.codeword_list.specs.declared.Stop.TheVariants.{Cut}
use Rattle.codeword_list.specs.Inner.ListRead.{ending_of, ReadIntoList}
use Rattle.audio.specs.Channels.{floor_number, floors_of, is_used, coupled}
use Rattle.audio_channels.specs.Inner.Live.{used_bools}
use Rattle.audio_channels.proofs.LiveLaws.{used_of}
use Rattle.bits.specs.declared.Cursor.{Cursor}
use Rattle.audio_floors.specs.declared.channel.Cut as F
use Rattle.audio_floors.specs.declared.FloorsRead.{FloorsRead}
use Rattle.audio_floors.specs.Inner.Floors.{is_cut, has_cut, floors_end, FloorsReadable, FloorsAre}
use Rattle.audio_residues.specs.Inner.Reading.{submaps_run, ResiduesReadable}
use Rattle.audio_body.specs.Inner.Body.{floors_in, residues_in, body_in, BodyIs, BodyReadable}
use Rattle.audio_body.proofs.BodyWords.{Asks, all_ask}
use Rattle.audio_body.proofs.BodyLaws.{cut_ending, cut_list, whole_ending, whole_list}

-- floors that are all whole are as many as were asked for
all_long : (reads : Request → Reader ℕ) (s : List ℕ) (fs : List Floor) (k : ℕ) (vs : List FloorRead) → (run reads (each floor_requests fs) s k).value ≡ some vs → length vs ≡ length fs
unfolding each run
all_long reads s [] k vs e = ap length (sym (some-injective _ _ e))
all_long reads s (f ∷ fs) k vs e =
    let a = both (run reads (floor_requests f) s k) (λ v n. run reads (bind (each floor_requests fs) (λ l. done (v ∷ l))) s n)
    (ap (λ (r : Run (List FloorRead)). r.value) (sym (run_bind reads s (floor_requests f) (λ v. bind (each floor_requests fs) (λ l. done (v ∷ l))) k)) ∙ e) in
    let n = (run reads (floor_requests f) s k).position in
    let b = both (run reads (each floor_requests fs) s n) (λ l m. run reads (done (a.first ∷ l)) s m)
    (ap (λ (r : Run (List FloorRead)). r.value) (sym (run_bind reads s (each floor_requests fs) (λ l. done (a.first ∷ l)) n)) ∙ a.second) in
    let h = all_long reads s fs n b.first b.came in
    ap length (sym (some-injective _ _ b.second)) ∙ ap suc h

module _ (books lengths floors residues plans mappings : List ℕ) (n channels half : ℕ) (s : List ℕ) (k : ℕ) where
  abbrev fs : List Floor
  fs = floors_in mappings floors n channels

  abbrev lens : ℕ → List ℕ
  lens = lengths_in books lengths

  abbrev floors_run : Run (List FloorRead)
  floors_run = run (read lens) (each floor_requests fs) s k

  abbrev whole : List FloorRead
  whole = whole_values (read lens) floor_requests fs s k

  abbrev body_run : Run Unit
  body_run = run (read lens) (body_in books floors residues plans mappings n channels half) s k

  abbrev rest : List FloorRead → Requests Unit
  rest vs = residues_in books residues plans mappings n half vs

  asks : (vs : List FloorRead) → Asks true (rest vs)
  unfolding residues_in
  asks vs = all_ask (dimensions_in books) (residue_in residues plans) half (mapping_in mappings n) (coupled (mapping_in mappings n).couplings (map is_used vs)) 0 (mapping_in mappings n).submaps

  module _ {r : FloorsRead} {entry exit : List ℕ} (f : FloorsAre lens channels half fs s k r entry exit) (list : List ℕ) where
    -- a floor was cut
    was_cut : has_cut r.end ≡ true → floors_run.value ≡ none
    unfolding is_cut
    was_cut e = go floors_run.value refl (sym f.cut ∙ e)
      where
        go : (v : Option (List FloorRead)) → floors_run.value ≡ v → is_cut v ≡ true → floors_run.value ≡ none
        go none q h = q
        go (some vs) q h = absurd (cc)

    pub body_cut : {z : F.Cut} → r.end ≡ Err z → BodyIs body_run fs whole channels half (record { used = r.used; words = Err (Cut (record { at = z.place; count = 0 })) }) entry exit list list
    unfolding body_in ending_of
    body_cut {z} e =
        let v = was_cut (ap has_cut e) in
        let p : position z.place ≡ floors_run.position = sym (ap floors_end e) ∙ f.position in
        record {
          used = f.used;
          ending = rw p (sym (cut_ending lens s k fs rest asks v (length list)));
          curves = f.curves;
          words = cut_list lens s k fs rest asks v list;
        }

    -- none was
    pub record AllWhole : Type 0 where
      pub read_floors : List FloorRead
      pub value : floors_run.value ≡ some read_floors

    was_whole : has_cut r.end ≡ false → AllWhole
    unfolding is_cut
    was_whole e = go floors_run.value refl (sym f.cut ∙ e)
      where
        go : (v : Option (List FloorRead)) → floors_run.value ≡ v → is_cut v ≡ false → AllWhole
        go none q h = absurd (cc)
        go (some vs) q h = record { read_floors = vs; value = q }

    pub body_whole : channels ≤ 255 → {at : Cursor} → r.end ≡ Ok at → {x : Result Progress Stop} {list' : List ℕ}
        → ReadIntoList (submaps_run books lengths residues plans half (mapping_in mappings n) (coupled (mapping_in mappings n).couplings (used_bools channels r.used)) 0 (mapping_in mappings n).submaps s (position at)) list 0 x list'
        → BodyIs body_run fs whole channels half (record { used = r.used; words = x }) entry exit list list'
    unfolding body_in used_bools floors_of residues_in
    body_whole few {at} e {x} {list'} g =
        let w = was_whole (ap has_cut e) in
        let p : position at ≡ floors_run.position = sym (ap floors_end e) ∙ f.position in
        let same = (sequence lens floor_requests fs).whole s k w.read_floors w.value in
        let maps = length-map (tabulate (floor_number (mapping_in mappings n)) channels) (floor_in floors) in
        let long : length w.read_floors ≡ channels = all_long (read lens) s fs k w.read_floors w.value ∙ maps ∙ tabulate-length (floor_number (mapping_in mappings n)) channels in
        let used : used_bools channels r.used ≡ map is_used w.read_floors =
        ap (used_bools channels) (f.used ∙ ap (λ (vs : List FloorRead). pad 255 (map (λ v. one (is_used v)) vs)) same)
        ∙ ap (λ (m : ℕ). used_bools m (pad 255 (map (λ v. one (is_used v)) w.read_floors))) (sym long)
        ∙ used_of is_used w.read_floors (omega arith) in
        let read_all : ReadIntoList (run (read lens) (rest w.read_floors) s floors_run.position) list 0 x list' = go (used_bools channels r.used) (position at) w.read_floors used p g in
        record {
          used = f.used;
          ending = read_all.ending ∙ whole_ending lens s k fs rest asks w.value (length list);
          curves = f.curves;
          words = read_all.list ∙ whole_list lens s k fs rest asks w.value list;
        }
      where
        go : (l : List Bool) (p : ℕ) (vs : List FloorRead) → l ≡ map is_used vs → p ≡ floors_run.position
            → ReadIntoList (submaps_run books lengths residues plans half (mapping_in mappings n) (coupled (mapping_in mappings n).couplings l) 0 (mapping_in mappings n).submaps s p) list 0 x list'
            → ReadIntoList (run (read lens) (rest vs) s floors_run.position) list 0 x list'
        go l p vs a b y =
            subst (λ (q : ℕ). ReadIntoList (run (read lens) (rest vs) s q) list 0 x list') b
            (subst (λ (m : List Bool). ReadIntoList (submaps_run books lengths residues plans half (mapping_in mappings n) (coupled (mapping_in mappings n).couplings m) 0 (mapping_in mappings n).submaps s p) list 0 x list') a y)

-- what the functions that are called ask for
module _ {mappings floors residues plans books lengths codewords : List ℕ} {n channels half : ℕ} (b : BodyReadable mappings floors residues plans books lengths codewords n channels half) where
  pub floors_asked : {room : ℕ} → channels * half ≤ room
      → (channels ≤ 255) × (half ≤ 4096) × (channels * half ≤ room) × FloorsReadable channels n mappings floors books lengths codewords
  floors_asked h = (b.channels_few, b.half_few, h, b.floors_readable)

  pub residues_asked : {used : List ℕ} (l : List ℕ) → used ≡ pad 255 l → ResiduesReadable books lengths codewords residues plans mappings used channels n half
  residues_asked l e =
      record {
        mapping_is = b.floors_readable.mapping_readable;
        channels_few = b.channels_few;
        half_few = b.half_few;
        flags-length = ap length e ∙ length-pad 255 l;
        residue_is = b.residue_is;
      }
