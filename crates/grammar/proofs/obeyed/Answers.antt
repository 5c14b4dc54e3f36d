use Rattle.std.proofs.Common.{refl}
use Rattle.grammar.proofs.Soundness.{sound}
use Rattle.grammar.proofs.Completeness.{accepts}
use Rattle.grammar.proofs.Completion.{unique, refuses_first, refuses_end}
use Rattle.grammar.proofs.Limits.{within_limits, accepts_shallow, six_or_seven, refuses_six, refuses_seven}
use Rattle.grammar.proofs.obeyed.Goals as goal

pub returns : goal.returns
returns c = record { agree = refl; laws = record { sound = sound; complete = accepts; unique = unique; refuses_first = refuses_first; refuses_end = refuses_end; within_limits = within_limits; accepts_shallow = accepts_shallow; six_or_seven = six_or_seven; refuses_six = refuses_six; refuses_seven = refuses_seven } }
