-- THE ITEMS OF A PACKET are all that its head and its body ask for, up to a cut (specs/Claims.antt, `ReadUntilCut`): by one induction for every tree of
-- requests, and head and body are one tree. Assumes nothing.
use Prim.Native.Nat.{ℕ}
use mathlib.Core.List.{List, ◌∷◌, ◌++◌}
use mathlib.Core.Logic.{inl, inr}
use mathlib.Core.Option.{Option, none, some}
use mathlib.Core.Path.{◌≡◌, refl, ap, subst, ◌∙◌}
use Rattle.reading.specs.Outcome.{refusal, Outcome, ok, bad}
use Rattle.reading.proofs.Outcomes.{ok_is, not_both}
use Rattle.identification.specs.declared.Identity.{Identity}
use Rattle.setup.specs.Content.{Setup, lengths_of}
use Rattle.requests.specs.Requests.{Request, Requests, done, ask}
use Rattle.requests.specs.Run.{read, Item, Run, continued, run}
use Rattle.requests.specs.Refusing.{onward, and_then, came_or, came_to}
use Rattle.requests.specs.Inner.Parts.{after, joined}
use Rattle.requests.proofs.Laws.{run_bind}
use Rattle.requests.proofs.Single.{read_refused}
use Rattle.audio.specs.declared.Head.{Head}
use Rattle.audio.specs.Head.{head_requests}
use Rattle.audio.specs.Packet.{Audio, body_requests, body_run, body_at, head_run, audio}
use Rattle.audio.specs.Claims.{packet_requests, requests_made, next_request, ReadUntilCut}
use Rattle.audio.proofs.Accepted.{packet_read_lem}

module _ {A : Type 0} (lengths : ℕ → List ℕ) (s : List ℕ) where
  abbrev UntilCut : Requests A → Run A → Type 0
  UntilCut x r = ReadUntilCut lengths x s r.items r.position

  run_until_cut : (x : Requests A) (k : ℕ) → UntilCut x (run (read lengths) x s k)
  unfolding run requests_made next_request
  run_until_cut (done a) k = record { made = refl; ended = inl refl }
  run_until_cut (ask q f) k = go (λ v n. run_until_cut (f v) n) (read lengths q s k) refl
    where
      go : ((v n : ℕ) → UntilCut (f v) (run (read lengths) (f v) s n)) → (o : Outcome (ℕ × ℕ)) → read lengths q s k ≡ o
          → UntilCut (ask q f) (continued q k o (λ v n. run (read lengths) (f v) s n))
      go h (ok x) e =
          let t = h x.0 x.1 in
          record { made = ap (λ (l : List Request). q ∷ l) t.made; ended = t.ended }
      go h (bad z) e = record { made = refl; ended = inr (q, refl, e ∙ ap bad (read_refused lengths q s k z e)) }

-- HEAD AND BODY, one after the other, are the run of the one tree
module _ (i : Identity) (c : Setup) (s : List ℕ) where
  packet_run : (h : Head) (k : ℕ) → came_to (head_run i c s) ≡ ok (h, k)
      → ((body_at i.channels c s (head_run i c s).items h k).items ≡ (run (read (lengths_of c)) (packet_requests i c) s 0).items)
      × ((body_at i.channels c s (head_run i c s).items h k).position ≡ (run (read (lengths_of c)) (packet_requests i c) s 0).position)
  unfolding body_at packet_requests and_then joined came_to
  packet_run h k e =
      rw (run_bind (read (lengths_of c)) s (head_requests i c.modes) follows 0)
      (go (head_run i c s).items (head_run i c s).position (head_run i c s).value e)
    where
      follows : Outcome Head → Requests (Outcome Unit)
      follows o = onward o (λ g. body_requests i.channels c g)

      whole : List Item → ℕ → Option (Outcome Head) → Run (Outcome Unit)
      whole l n v = after l n v (λ o m. run (read (lengths_of c)) (follows o) s m)

      go : (l : List Item) (n : ℕ) (v : Option (Outcome Head)) → came_or v n ≡ ok (h, k)
          → (l ++ (body_run i.channels c s h k).items ≡ (whole l n v).items)
          × ((body_run i.channels c s h k).position ≡ (whole l n v).position)
      go l n (some (ok g)) e = rw (ap (λ (y : Head × ℕ). y.0) (ok_is e), ap (λ (y : Head × ℕ). y.1) (ok_is e)) (refl, refl)
      go l n (some (bad z)) e = absurd (not_both (bad z) e refl)
      go l n none e = absurd (not_both (bad (refusal 1 n)) e refl)

  pub packet_until_cut : (a : Audio) → audio i c s ≡ ok a → ReadUntilCut (lengths_of c) (packet_requests i c) s a.items a.position
  packet_until_cut a e =
      let x = packet_read_lem i c s e in
      let p = packet_run x.0.0 x.0.1 x.1 in
      let b = body_at i.channels c s (head_run i c s).items x.0.0 x.0.1 in
      let t : ReadUntilCut (lengths_of c) (packet_requests i c) s b.items b.position =
      rw (p.0, p.1) (run_until_cut (lengths_of c) s (packet_requests i c) 0) in
      subst (λ (y : Audio). ReadUntilCut (lengths_of c) (packet_requests i c) s y.items y.position) x.2 t
