use Rattle.flat.proofs.Writing.{made}
use Rattle.flat.proofs.commands.make.Goals as goal

pub returns : goal.returns
returns c = made c.args.cells.now c.requires.sound c.args.n c.args.what c.requires.allowed
