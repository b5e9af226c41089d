-- WHAT AN AUDIO PACKET SAYS: its head; what the floor of each channel came to; every field and codeword that was read whole, in order; and where reading
-- stopped (003, 4.3; 01, "Audio order" 1 to 5). Every refusal refuses it, but for a cut behind its head: that ends reading, and the packet stands.
-- Assumes nothing: these are definitions.
use Rattle.std.specs.Prelude.{ℕ, zero, suc, ◌/◌, List, [], ◌∷◌, ◌++◌, map, eqb, get_or}
use Rattle.reading.specs.Outcome.{Outcome, ok, bad, then, need}
use Rattle.identification.specs.declared.Identity.{Identity}
use Rattle.floor.specs.Content.{Floor, no_floor}
use Rattle.residue.specs.Content.{no_residue}
use Rattle.mapping.specs.Content.{Mapping, no_mapping}
use Rattle.setup.specs.Content.{Setup, lengths_of, dimensions_of}
use Rattle.requests.specs.Requests.{Requests}
use Rattle.requests.specs.Run.{read, Item, Run, run}
use Rattle.requests.specs.Values.{whole_values}
use Rattle.requests.specs.Refusing.{lifted, and_then, in_turn, values_of, came_to}
use Rattle.floor_requests.specs.Requests.{FloorRead, unused, floor_requests}
use Rattle.audio.specs.declared.Head.{Head}
use Rattle.audio.specs.Head.{mode_at, head_requests}
use Rattle.audio.specs.Channels.{floors_of, is_used, coupled, all_requests}

pub record Audio : Type 0 where
  pub head : Head
  -- for each channel
  pub floors : List FloorRead
  -- each field with its width and each codeword with its book and what it is for, with its number
  pub items : List Item
  -- the position behind the last of them
  pub position : ℕ

unfoldable pub mapping_of : Setup → Head → Mapping
mapping_of c h = get_or c.mappings (mode_at c.modes h.mode).mapping no_mapping

-- 2: the floors of the channels, in order
unfoldable pub channel_floors : ℕ → Setup → Head → List Floor
channel_floors channels c h = floors_of (λ n. get_or c.floors n no_floor) (mapping_of c h) channels

-- what is asked for a channel's floor, which may refuse the packet; type 1 refuses nothing
unfoldable pub channel_requests : Floor → Requests (Outcome FloorRead)
channel_requests f = lifted (floor_requests f)

-- 4 and 5: the residues, behind what the floors came to
unfoldable pub residues_after : Setup → Head → List FloorRead → Requests Unit
residues_after c h floors =
    all_requests (dimensions_of c) (λ n. get_or c.residues n no_residue) (h.blocksize / 2) (mapping_of c h)
    (coupled (mapping_of c h).couplings (map is_used floors)) 0 (mapping_of c h).submaps

-- THE BODY: the floors, then the residues, which refuse nothing
unfoldable pub body_requests : ℕ → Setup → Head → Requests (Outcome Unit)
body_requests channels c h = and_then (in_turn channel_requests (channel_floors channels c h)) (λ floors. lifted (residues_after c h floors))

-- its run, from bit k on
abbrev pub body_run : ℕ → Setup → List ℕ → Head → ℕ → Run (Outcome Unit)
body_run channels c s h k = run (read (lengths_of c)) (body_requests channels c h) s k

-- a floor cut short is unused, and so is that of every later channel
unfoldable pub by_channel : ℕ → List FloorRead → List FloorRead
by_channel zero l = []
by_channel (suc n) [] = unused ∷ by_channel n []
by_channel (suc n) (x ∷ l) = x ∷ by_channel n l

-- the packet s behind a head that was read up to bit k, with these items
unfoldable pub body_at : ℕ → Setup → List ℕ → List Item → Head → ℕ → Audio
body_at channels c s l h k =
    record {
      head = h;
      floors = by_channel channels (values_of (whole_values (read (lengths_of c)) channel_requests (channel_floors channels c h) s k));
      items = l ++ (body_run channels c s h k).items;
      position = (body_run channels c s h k).position;
    }

abbrev pub head_run : Identity → Setup → List ℕ → Run (Outcome Head)
head_run i c s = run (read (lengths_of c)) (head_requests i c.modes) s 0

-- ONLY NUMBER 1 LETS A PACKET STAND: behind the head a cut ends reading; any other refusal refuses the packet (01, "Audio order" 2 and 5)
unfoldable pub standing : Outcome (Unit × ℕ) → Audio → Outcome Audio
standing (ok x) a = ok a
standing (bad z) a = need (eqb z.number 1) z (ok a)

-- THE PACKET: refused for its head (1, 15, 16), then for its body, where floors of type 1 refuse nothing
unfoldable pub audio : Identity → Setup → List ℕ → Outcome Audio
audio i c s =
    then (came_to (head_run i c s)) (λ h.
    standing (came_to (body_run i.channels c s h.0 h.1)) (body_at i.channels c s (head_run i c s).items h.0 h.1))
