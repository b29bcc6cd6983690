use Rattle.sample_types.proofs.word_laws.runs_are_passed_on_so.Goals as goal

pub returns-clause-runs : goal.returns-clause-runs
returns-clause-runs g c = λ p d n bytes h. (h.older_entries, h.newer_entries, h.older_run, h.newer_run)

pub returns-clause-reads : goal.returns-clause-reads
returns-clause-reads g c = λ p d n bytes filled old new before after h. (h.rewritten.left, h.out, h.over, h.rewritten.rewrites, h.reads)

pub returns-clause-stopped : goal.returns-clause-stopped
returns-clause-stopped g c = λ p d n bytes filled old new before after f h. (h.run, h.short, h.rewritten.left, h.out, h.over, h.unread, h.rewritten.rewrites, h.stops)
