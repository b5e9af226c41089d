-- What a worked packet computes with: `unfolding computation` opens every definition between a call and its bits.
use Rattle.reading.specs.Least.{count, lowest}
use Rattle.reading.specs.Lists.{rows}
use Rattle.reading.specs.Pad.{pad}
use Rattle.reading.specs.Reader.{mapped}
use Rattle.reading.specs.Tabulate.{tabulate}
use Rattle.bits.specs.Field.{bit_at, value_at, field}
use Rattle.bits.specs.Ilog.{highest_set, ilog}
use Rattle.codeword_assignment.specs.Book as assignment
use Rattle.codeword.specs.Codeword.{bits_at, is_codeword, entry_of, matching, codeword}
use Rattle.setup.specs.Content.{lengths_of, dimensions_of}
use Rattle.floor_line.specs.Line.{offset, line}
use Rattle.floor_line.specs.Search.{searched}
use Rattle.floor_line.specs.Neighbours.{takes_low, takes_high, low_neighbour, high_neighbour}
use Rattle.floor_points.specs.FinalY as final
use Rattle.floor_curve.specs.Curve as curve
use Rattle.floor_partition.specs.Partition.{chosen, whole}
use Rattle.floor_values.specs.Values.{first_bits}
use Rattle.requests.specs.Requests.{request, bind, many, each}
use Rattle.requests.specs.Run.{read, run}
use Rattle.requests.specs.Values.{whole_values}
use Rattle.requests.specs.Refusing.{lifted, and_then, in_turn, values_of, came_to}
use Rattle.floor_requests.specs.Requests.{class_requests, value_requests, partition_requests, used_requests, floor_requests}
use Rattle.residue_requests.specs.Requests as residue
use Rattle.residue_requests.specs.Listed.{residue_words, listed}
use Rattle.audio.specs.Head.{mode_at, block_size, flag_requests, mode_requests, head_requests, window}
use Rattle.audio.specs.Channels.{submap_of, floor_number, floors_of, is_used, couple, coupled, channels_of, live_of, vector_size, vector_count, submap_requests, all_requests}
use Rattle.audio.specs.Packet.{mapping_of, channel_floors, channel_requests, residues_after, body_requests, by_channel, body_at, standing, audio}
use Rattle.audio.specs.Tally.{tally_sound, finished, counted}
use Rattle.audio.specs.Curves.{curve_of, curves_of}
use Rattle.audio.specs.Call.{judged, accepted, answered, audio_by}

unfoldable pub computation : Unit {0}
unfolding
    audio_by answered accepted judged audio standing body_at by_channel body_requests residues_after channel_requests channel_floors mapping_of lifted and_then
    in_turn values_of came_to head_requests mode_requests flag_requests block_size mode_at window submap_of floor_number floors_of is_used couple coupled channels_of live_of vector_size vector_count submap_requests
    all_requests tally_sound finished counted curve_of curves_of count lowest rows pad mapped tabulate bit_at value_at field highest_set ilog assignment.used
    assignment.is_used assignment.is_lone assignment.first_used is_codeword entry_of matching codeword lengths_of dimensions_of offset line searched takes_low
    takes_high low_neighbour high_neighbour final.range_of final.predicted final.room final.unwrapped final.clamped final.flagged final.step final.steps
    final.begun final.points final.fitting final.final_ys curve.takes_left curve.takes_right curve.last_at curve.next_after curve.height_at curve.natural
    curve.line_at curve.between curve.curve_at curve.places curve.fitting curve.curve chosen whole first_bits request bind many each read run whole_values
    class_requests value_requests partition_requests used_requests floor_requests residue.planned residue.digit residue.classes_of residue.vectors
    residue.partition residue.across_vectors residue.class_words residue.first_pass residue.later_pass residue.later_passes residue.residue_requests
    residue.partition_count residue_words listed bits_at
computation = tt
