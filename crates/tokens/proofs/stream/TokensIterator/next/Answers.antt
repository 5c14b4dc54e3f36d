use Rattle.std.proofs.Common.{rules}
use Rattle.tokens.specs.Stream.{Gives}
use Rattle.tokens.specs.declared.stream.Tokens.{Tokens}
use Rattle.tokens.proofs.Turns.{comes_on}
use Rattle.tokens.proofs.stream.TokensIterator.next.Goals as goal

pub returns-clause-goes : goal.returns-clause-goes
returns-clause-goes c =
    let after : Tokens = record { text = c.args.self.now.text; from = c.match-found.self } in
    let gives : Gives c.args.self.now c.transpose-found.result after = search rules in
    let on = comes_on c.args.self.now after c.transpose-found.result gives in
    record { on = λ _. search (rules, on); keeps = search rules; rests = λ _. search rules }
