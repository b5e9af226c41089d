-- `audio_body::read_body` meets its contract, by BodyReadLaws: one law for each way that the floors end. Assumes nothing.
use Rattle.audio_body.proofs.BodyReadLaws.{floors_asked, residues_asked, body_cut, body_whole}
use Rattle.audio_body.proofs.read_body.Goals as goal

pub read_floors-floors-requires : goal.read_floors-floors-requires
read_floors-floors-requires c = floors_asked c.requires.0 c.requires.1

pub read_residues-requires : goal.read_residues-requires
read_residues-requires c = residues_asked c.requires.0 _ c.read_floors-floors.ensures.used

pub returns-in-Ok : goal.returns-in-Ok
returns-in-Ok c =
    body_whole _ _ _ _ _ _ _ _ _ _ _ c.read_floors-floors.ensures _ c.requires.0.channels_few c.in-Ok.is c.read_residues.ensures

pub returns-in-Err : goal.returns-in-Err
returns-in-Err c = body_cut _ _ _ _ _ _ _ _ _ _ _ c.read_floors-floors.ensures _ c.in-Err.is
