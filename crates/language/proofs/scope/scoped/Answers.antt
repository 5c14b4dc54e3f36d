use Rattle.language.proofs.Scopes.{scoping}
use Rattle.language.proofs.scope.scoped.Goals as goal

pub returns : goal.returns
returns c = scoping
