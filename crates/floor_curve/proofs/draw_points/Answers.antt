-- `floor_curve::draw_points` meets its contract. Both ways of drawing give the curve; the first is taken where every place is linked. Assumes nothing.
use Rattle.floor_curve.proofs.draw_points.Goals as goal

pub draw_linked-requires : goal.draw_linked-requires
draw_linked-requires c = (c.requires, c.link_all.ensures c.if-link_all.true)
