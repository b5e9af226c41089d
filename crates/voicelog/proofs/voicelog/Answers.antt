-- `voicelog` is safe and ends: the arrays have the lengths that the run asks for. Assumes nothing.
use borrow.Author.Rules.{rules}
use Rattle.record_step.proofs.StartLaws.{tool_tables}
use Rattle.voicelog.proofs.voicelog.Goals as goal

pub run-status-requires : goal.run-status-requires
run-status-requires c =
    record {
      tables =
          tool_tables c.args.counts.now c.args.books.now c.args.lengths.now c.args.codewords.now c.args.multiplicands.now c.args.floors.now c.args.residues.now c.args.plans.now c.args.mappings.now c.args.modes.now
          (search rules) (search rules) (search rules) (search rules) (search rules) (search rules) (search rules) (search rules) (search rules) (search rules);
      of_curves_is = search rules;
      of_words = search rules;
      of_input = search rules;
      of_lines = search rules;
    }
