-- A PACKET WHOSE BODY REFUSES NOTHING, as the program reads it: floors are all of type 1. `audio_plain` (proofs/Plain.antt) says that such a packet is the packet.
-- Assumes nothing: these are definitions.
use Rattle.std.specs.Prelude.{ℕ, List, ◌++◌}
use Rattle.setup.specs.Content.{Setup, lengths_of}
use Rattle.requests.specs.Requests.{Requests, bind, each}
use Rattle.requests.specs.Run.{read, Item, Run, run}
use Rattle.requests.specs.Values.{whole_values}
use Rattle.floor_requests.specs.Requests.{floor_requests}
use Rattle.audio.specs.declared.Head.{Head}
use Rattle.audio.specs.Packet.{Audio, channel_floors, residues_after, by_channel}

-- the body
unfoldable pub plain_body : ℕ → Setup → Head → Requests Unit
plain_body channels c h = bind (each floor_requests (channel_floors channels c h)) (λ floors. residues_after c h floors)

abbrev pub plain_run : ℕ → Setup → List ℕ → Head → ℕ → Run Unit
plain_run channels c s h k = run (read (lengths_of c)) (plain_body channels c h) s k

-- the packet s behind a head that was read up to bit k, which has these items
unfoldable pub plain_at : ℕ → Setup → List ℕ → List Item → Head → ℕ → Audio
plain_at channels c s l h k =
    record {
      head = h;
      floors = by_channel channels (whole_values (read (lengths_of c)) floor_requests (channel_floors channels c h) s k);
      items = l ++ (plain_run channels c s h k).items;
      position = (plain_run channels c s h k).position;
    }
