use Rattle.flat.proofs.Writing.{unmade}
use Rattle.flat.proofs.commands.unmake.Goals as goal

pub returns : goal.returns
returns c = unmade c.args.cells.now c.requires.sound c.args.n c.requires.allowed
