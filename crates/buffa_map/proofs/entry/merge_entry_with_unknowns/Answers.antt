use Rattle.std.proofs.Common.{arith}
use Rattle.buffa_map.proofs.entry.merge_entry_with_unknowns.Goals as goal

pub returns-in-None-clause-ok : goal.returns-in-None-clause-ok
returns-in-None-clause-ok g c = rw c.in-None.is c.merge_entry_by.ensures.ok

pub returns-in-None-clause-err : goal.returns-in-None-clause-err
returns-in-None-clause-err g c = rw c.in-None.is c.merge_entry_by.ensures.err

pub returns-in-Some-clause-ok : goal.returns-in-Some-clause-ok
returns-in-Some-clause-ok g c = rw c.in-Some.is c.merge_entry_by-in-Some.ensures.ok

pub returns-in-Some-clause-err : goal.returns-in-Some-clause-err
returns-in-Some-clause-err g c = rw c.in-Some.is c.merge_entry_by-in-Some.ensures.err

pub returns-in-None-clause-room : goal.returns-in-None-clause-room
returns-in-None-clause-room g c = rw c.in-None.is (omega arith)

pub returns-in-Some-clause-room : goal.returns-in-Some-clause-room
returns-in-Some-clause-room g c = rw c.in-Some.is c.merge_entry_by-in-Some.ensures.room
