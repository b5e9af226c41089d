-- FLOORS OF TYPE 1 REFUSE NOTHING, nor does the body of a packet: what the program reads of it (specs/Inner/Plain.antt) is the packet. Assumes nothing.
use Prim.Native.Nat.{ℕ}
use mathlib.Core.List.{List, ◌++◌}
use mathlib.Core.Option.{Option, none, some}
use mathlib.Core.Path.{◌≡◌, refl, ap, sym, ◌∙◌}
use Rattle.reading.specs.Outcome.{Outcome, ok, then}
use Rattle.identification.specs.declared.Identity.{Identity}
use Rattle.setup.specs.Content.{Setup, lengths_of}
use Rattle.requests.specs.Requests.{Requests, each}
use Rattle.requests.specs.Run.{read, Item, Run, run, whole_or, outcome}
use Rattle.requests.specs.Refusing.{lifted, and_then, came_to}
use Rattle.requests.proofs.Refusing.{lifted_then, lifted-bind, lifted-each, lifted-items, lifted-position, lifted-outcome, lifted_values}
use Rattle.floor_requests.specs.Requests.{FloorRead, floor_requests}
use Rattle.audio.specs.declared.Head.{Head}
use Rattle.audio.specs.Packet.{Audio, channel_floors, channel_requests, residues_after, body_requests, body_run, by_channel, body_at, head_run, standing, audio}
use Rattle.audio.specs.Inner.Plain.{plain_body, plain_run, plain_at}

-- whatever came of a run that no refusal can end, the packet stands
run_stands : (r : Run Unit) (a : Audio) → standing (outcome r) a ≡ ok a
unfolding standing outcome
run_stands r a = go r.value
  where
    go : (v : Option Unit) → standing (whole_or v r.position) a ≡ ok a
    go (some x) = refl
    go none = refl

module _ (channels : ℕ) (c : Setup) (h : Head) where
  body_plain : body_requests channels c h ≡ lifted (plain_body channels c h)
  unfolding body_requests channel_requests plain_body
  body_plain =
      let floors = each floor_requests (channel_floors channels c h) in
      ap (λ (x : Requests (Outcome (List FloorRead))). and_then x (λ vs. lifted (residues_after c h vs))) (lifted-each floor_requests (channel_floors channels c h))
      ∙ lifted_then floors (λ vs. lifted (residues_after c h vs)) ∙ sym (lifted-bind floors (λ vs. residues_after c h vs))

  module _ (s : List ℕ) (k : ℕ) where
    abbrev reading : Requests (Outcome Unit) → Run (Outcome Unit)
    reading x = run (read (lengths_of c)) x s k

    body_stands : (a : Audio) → standing (came_to (body_run channels c s h k)) a ≡ ok a
    body_stands a =
        ap (λ (x : Requests (Outcome Unit)). standing (came_to (reading x)) a) body_plain
        ∙ ap (λ (o : Outcome (Unit × ℕ)). standing o a) (lifted-outcome (read (lengths_of c)) s (plain_body channels c h) k)
        ∙ run_stands (plain_run channels c s h k) a

    at_plain : (l : List Item) → body_at channels c s l h k ≡ plain_at channels c s l h k
    unfolding body_at plain_at channel_requests
    at_plain l =
        let body = plain_body channels c h in
        let reads = read (lengths_of c) in
        let floors = lifted_values reads s floor_requests (channel_floors channels c h) k in
        let items = ap (λ (x : Requests (Outcome Unit)). (reading x).items) body_plain ∙ lifted-items reads s body k in
        let position = ap (λ (x : Requests (Outcome Unit)). (reading x).position) body_plain ∙ lifted-position reads s body k in
        λ j. record { head = h; floors = by_channel channels (floors j); items = l ++ items j; position = position j }

-- THE PACKET is refused for its head alone
pub audio_plain : (i : Identity) (c : Setup) (s : List ℕ)
    → audio i c s ≡ then (came_to (head_run i c s)) (λ h. ok (plain_at i.channels c s (head_run i c s).items h.0 h.1))
unfolding audio
audio_plain i c s =
    let l = (head_run i c s).items in
    let same : (h : Head × ℕ)
    → standing (came_to (body_run i.channels c s h.0 h.1)) (body_at i.channels c s l h.0 h.1) ≡ ok (plain_at i.channels c s l h.0 h.1) =
    λ h. body_stands i.channels c h.0 s h.1 (body_at i.channels c s l h.0 h.1) ∙ ap ok (at_plain i.channels c h.0 s h.1 l) in
    λ j. then (came_to (head_run i c s)) (λ h. same h j)
