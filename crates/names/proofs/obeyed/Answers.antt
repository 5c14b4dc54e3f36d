use Rattle.std.proofs.Common.{refl}
use Rattle.names.proofs.Sounding.{exact}
use Rattle.names.proofs.Places.{eight, nine, ten, eleven, twelve, thirteen, fourteen, no_others}
use Rattle.names.proofs.Verdicts.{accepts, refuses, decides}
use Rattle.names.proofs.obeyed.Goals as goal

pub returns : goal.returns
returns c = record { agree = refl; laws = record { exact = exact; eight = eight; nine = nine; ten = ten; eleven = eleven; twelve = twelve; thirteen = thirteen; fourteen = fourteen; no_others = no_others; accepts = accepts; refuses = refuses; decides = decides } }
