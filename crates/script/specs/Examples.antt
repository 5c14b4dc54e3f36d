-- Worked examples of the definition: each has what it gives of a script, and what that should be. Assumes nothing.
use Rattle.std.specs.Prelude.{◌≡◌, ℕ, List, [], ◌∷◌, ◌++◌, map, Some, None, codes, Option}
use Prim.Native.String.{String}
use Rattle.commands.specs.declared.Cause.TheVariants.{NoReckoning, UnknownCommand, NoSuchCell, NoEnd}
use Rattle.script.specs.Scripts.{Fails, fault, performed}

-- lines, each with its line feed
abbrev text : List String → List ℕ
text [] = []
text (l ∷ ls) = codes l ++ (10 ∷ text ls)

abbrev pub examples : List ((List ℕ × Option Fails) × (List ℕ × Option Fails))
examples = (
  performed (text ("# int share(int food,int n){return food/n;}" ∷ "reckoning weights" ∷ "store 32" ∷ "code" ∷ "halt" ∷ "enter 2" ∷ "alloc 0" ∷ "loadrc 1" ∷ "load" ∷ "loadrc 2" ∷ "load" ∷ "div @37" ∷ "loadrc -3" ∷ "store" ∷ "return" ∷ "end" ∷ "cell 5 10" ∷ "cell 6 4" ∷ "registers 1 6 4 0 1 100" ∷ "run" ∷ "show 1 1" ∷ "cell 6 0" ∷ "registers 1 6 4 0 1 100" ∷ "run" ∷ [])),
  (text ("halt | pc 0 sp 1 fp 0 ep 0 active 0 budget 100 spent 0" ∷ "2.500" ∷ "stop 46 reckoning at 37 | pc 7 sp 8 fp 4 ep 8 active 1 budget 100 spent 0" ∷ "report: 2 runs, 1 halted, 1 stopped, 0 units spent" ∷ []), None),
)
    ∷ (performed (text ("reckoning counts" ∷ "store 3" ∷ "cell 1 -70" ∷ "show 0 2" ∷ "show 1 3" ∷ [])), (text ("0 -70 0" ∷ []), Some (fault 5 NoSuchCell)))
    ∷ (performed (text ("reckoning counts" ∷ "" ∷ "store 1" ∷ "stroe 2" ∷ [])), ([], Some (fault 4 UnknownCommand)))
    ∷ (performed (text ("reckoning counts" ∷ "code" ∷ "halt" ∷ [])), ([], Some (fault 3 NoEnd)))
    ∷ (performed [], ([], Some (fault 1 NoReckoning)))
    ∷ []

-- Each gives what it should.
abbrev pub Agree : Type 0
Agree = map (λ e. e.0) examples ≡ map (λ e. e.1) examples
