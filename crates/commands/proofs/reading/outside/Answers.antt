use Rattle.std.proofs.Common.{◌≡◌, refl, rules, arith}
use Rattle.std.specs.Prelude.{codes}
use Rattle.std.proofs.lemmas.Slice.Eq.{text_from_reads}
use Rattle.commands.proofs.Names.{no_word}
use Rattle.commands.proofs.reading.outside.Goals as goal

pub returns-in_ok-store_size-in-store : goal.returns-in_ok-store_size-in-store
returns-in_ok-store_size-in-store g c = let e : c.args.first.now ≡ codes "store" = text_from_reads _ _ (omega arith) (search rules) in rw e (search rules)

pub returns-in_ok-at-in-cell : goal.returns-in_ok-at-in-cell
returns-in_ok-at-in-cell g c = let e : c.args.first.now ≡ codes "cell" = text_from_reads _ _ (omega arith) (search rules) in rw e (search rules)

pub returns-in_ok-none-in-code : goal.returns-in_ok-none-in-code
returns-in_ok-none-in-code g c = let e : c.args.first.now ≡ codes "code" = text_from_reads _ _ (omega arith) (search rules) in rw e (search rules)

pub returns-in_err-six-in-registers : goal.returns-in_err-six-in-registers
returns-in_err-six-in-registers g c = let e : c.args.first.now ≡ codes "registers" = text_from_reads _ _ (omega arith) (search rules) in rw e (search rules)

pub returns-in_ok-six-in-registers : goal.returns-in_ok-six-in-registers
returns-in_ok-six-in-registers g c = let e : c.args.first.now ≡ codes "registers" = text_from_reads _ _ (omega arith) (search rules) in rw e (search rules)

pub returns-in_ok-from-in-show : goal.returns-in_ok-from-in-show
returns-in_ok-from-in-show g c = let e : c.args.first.now ≡ codes "show" = text_from_reads _ _ (omega arith) (search rules) in rw e (search rules)

pub returns-in-reckoning : goal.returns-in-reckoning
returns-in-reckoning g c = let e : c.args.first.now ≡ codes "reckoning" = text_from_reads _ _ (omega arith) (search rules) in rw e (search rules)

pub returns-in_default : goal.returns-in_default
returns-in_default g c = rw (no_word c.args.first.now (codes "store") (λ e. search rules), no_word c.args.first.now (codes "cell") (λ e. search rules), no_word c.args.first.now (codes "code") (λ e. search rules), no_word c.args.first.now (codes "registers") (λ e. search rules), no_word c.args.first.now (codes "run") (λ e. search rules), no_word c.args.first.now (codes "show") (λ e. search rules), no_word c.args.first.now (codes "reckoning") (λ e. search rules)) refl
