use Rattle.std.proofs.Common.{Err, ◌≡◌, ◌∙◌, ◌++◌, ◌+◌, ap, map, refl, sym, subst, List, ℕ, ℤ}
use Rattle.std.specs.Map.{lookup_entry}
use Rattle.buffa_wire.specs.Enums.{numbers}
use Rattle.buffa_wire.specs.Records.{bytes}
use Rattle.buffa_map.proofs.ReaderRules.{keeping}
use Rattle.buffa_map.proofs.RewriteWholeLemmas.{whole, why_not}
use Rattle.buffa_map.specs.Enums.{ClosedFits, closed_reading, closed_writing}
use Rattle.buffa_map.specs.Pairs.{SamePairs}
use Rattle.buffa_map.specs.Rewrite.{IsRewrite, Ordered}
use Rattle.buffa_map.specs.Run.{fold_entries, undeclared, Run}
use Rattle.sample_types.proofs.PassedLemmas.{left_is, not_rewritten, read_whole, rewritten, stop_is_shortage, stopped}
use Rattle.sample_types.proofs.TripLemmas.{one_run, wrote}
use Rattle.sample_types.proofs.passed_on.passed_on.Goals as goal

pub returns-in-Ok-read_map_field-clause-keeps : goal.returns-in-Ok-read_map_field-clause-keeps
returns-in-Ok-read_map_field-clause-keeps g c fs k =
    let key = g.KC.MapValueDecode.reading in
    let e = numbers g.E.Enumeration.of_number g.E.Blank.blank_is in
    let f = numbers g.F.Enumeration.of_number g.F.Blank.blank_is in
    let depth = c.args.depth in
    let n = c.args.number in
    let given = c.args.bytes.now in
    let w = whole (keeping g.KC.MapValueDecode.reading (closed_reading e) g.C.MapStorage.equal g.C.MapStorage.keeps_order c.new-ctx.result.depth c.args.number (g.KC.MapValueDecode.COST + 4)) g.KC.MapCodec.writing closed_writing g.KC.MapCodec.fits (ClosedFits e) (g.C.MapStorage.walks c.rewrite_map_field.new.map)
    c.new-ctx.result.budget.now _ c.args.bytes.now _ (g.C.MapStorage.pairs c.rewrite_map_field.new.map) c.new-encoding.result.items _ _ _ (λ l walk. g.met.C.MapStorage.walked c.rewrite_map_field.new.map l walk) c.in-Ok.ensures.read c.in-Ok.ensures.written c.in-Ok.ensures.short c.in-Ok.ensures.fits c.in-Ok.ensures.room in
    let r = c.in-Ok-read_map_field.ensures.ok in
    let run = subst (λ (z : ℕ). Run key (closed_reading e) z n given w.read.entries) c.new-ctx.ensures.depth w.read.run in
    let t = c.rewrite_means.ensures g.C.MapStorage.equal g.met.C.MapStorage.equivalence e f g.met.E.Enumeration.blank_declared c.requires.refines depth n given w.out w.read.entries fs c.requires.number run k w.rewrite in
    let encoding : c.as_slice-written.result.now ≡ w.out = wrote w.out c.new-encoding.ensures.items w.encoding c.as_slice-written.ensures.value in
    let read = one_run c.one_reading-2.ensures c.new-ctx-2.result.depth depth n c.as_slice-written.result.now w.out r.entries t.0 c.new-ctx-2.ensures.depth encoding r.run t.1 in
    let kept : undeclared r.entries ≡ undeclared fs = ap undeclared read ∙ t.2.0 in
    r.keeps ∙ ap (λ z. c.args.unknown.now.records ++ map (λ (x : List ℕ). (n, bytes x)) z) kept

pub returns-in-Ok-read_map_field-clause-means : goal.returns-in-Ok-read_map_field-clause-means
returns-in-Ok-read_map_field-clause-means g c es fs h k o q =
    let key = g.KC.MapValueDecode.reading in
    let e = numbers g.E.Enumeration.of_number g.E.Blank.blank_is in
    let f = numbers g.F.Enumeration.of_number g.F.Blank.blank_is in
    let depth = c.args.depth in
    let n = c.args.number in
    let given = c.args.bytes.now in
    let w = whole (keeping g.KC.MapValueDecode.reading (closed_reading e) g.C.MapStorage.equal g.C.MapStorage.keeps_order c.new-ctx.result.depth c.args.number (g.KC.MapValueDecode.COST + 4)) g.KC.MapCodec.writing closed_writing g.KC.MapCodec.fits (ClosedFits e) (g.C.MapStorage.walks c.rewrite_map_field.new.map)
    c.new-ctx.result.budget.now _ c.args.bytes.now _ (g.C.MapStorage.pairs c.rewrite_map_field.new.map) c.new-encoding.result.items _ _ _ (λ l walk. g.met.C.MapStorage.walked c.rewrite_map_field.new.map l walk) c.in-Ok.ensures.read c.in-Ok.ensures.written c.in-Ok.ensures.short c.in-Ok.ensures.fits c.in-Ok.ensures.room in
    let r = c.in-Ok-read_map_field.ensures.ok in
    let run = subst (λ (z : ℕ). Run key (closed_reading e) z n given w.read.entries) c.new-ctx.ensures.depth w.read.run in
    let same : w.read.entries ≡ es = c.one_reading.ensures.run depth n given w.read.entries es run h in
    let rewrite = subst (λ z. IsRewrite g.C.MapStorage.equal g.KC.MapCodec.writing closed_writing g.KC.MapCodec.fits (ClosedFits e) n z w.out) same w.rewrite in
    let t = c.rewrite_means.ensures g.C.MapStorage.equal g.met.C.MapStorage.equivalence e f g.met.E.Enumeration.blank_declared c.requires.refines depth n given w.out es fs c.requires.number h k rewrite in
    let encoding : c.as_slice-written.result.now ≡ w.out = wrote w.out c.new-encoding.ensures.items w.encoding c.as_slice-written.ensures.value in
    let read = one_run c.one_reading-2.ensures c.new-ctx-2.result.depth depth n c.as_slice-written.result.now w.out r.entries t.0 c.new-ctx-2.ensures.depth encoding r.run t.1 in
    let folds = subst (λ eq. Ordered eq es fs → (m : List (g.row.KC-Value-Meaning.Denot × ℤ)) → SamePairs eq (fold_entries eq m t.0) (fold_entries eq m fs)) c.requires.keys t.2.1 in
    let old = g.D.MapStorage.pairs c.args.map.now in
    let eq = g.D.MapStorage.equal in
    sym (folds o old q) ∙ ap (λ z. lookup_entry (eq q) (fold_entries eq old z)) (sym read) ∙ r.folded q

pub returns-in-Ok-read_map_field-clause-runs : goal.returns-in-Ok-read_map_field-clause-runs
returns-in-Ok-read_map_field-clause-runs g c =
    let key = g.KC.MapValueDecode.reading in
    let e = numbers g.E.Enumeration.of_number g.E.Blank.blank_is in
    let f = numbers g.F.Enumeration.of_number g.F.Blank.blank_is in
    let depth = c.args.depth in
    let n = c.args.number in
    let given = c.args.bytes.now in
    let w = whole (keeping g.KC.MapValueDecode.reading (closed_reading e) g.C.MapStorage.equal g.C.MapStorage.keeps_order c.new-ctx.result.depth c.args.number (g.KC.MapValueDecode.COST + 4)) g.KC.MapCodec.writing closed_writing g.KC.MapCodec.fits (ClosedFits e) (g.C.MapStorage.walks c.rewrite_map_field.new.map)
    c.new-ctx.result.budget.now _ c.args.bytes.now _ (g.C.MapStorage.pairs c.rewrite_map_field.new.map) c.new-encoding.result.items _ _ _ (λ l walk. g.met.C.MapStorage.walked c.rewrite_map_field.new.map l walk) c.in-Ok.ensures.read c.in-Ok.ensures.written c.in-Ok.ensures.short c.in-Ok.ensures.fits c.in-Ok.ensures.room in
    let run = subst (λ (z : ℕ). Run key (closed_reading e) z n given w.read.entries) c.new-ctx.ensures.depth w.read.run in
    let newer = c.newer_enums_take_it_too.ensures e f g.met.E.Enumeration.blank_declared c.requires.refines depth n given w.read.entries run in
    record { older_entries = w.read.entries; older_run = run; newer_entries = newer.0; newer_run = newer.1 }

pub returns-in-Ok-read_map_field-clause-reads : goal.returns-in-Ok-read_map_field-clause-reads
returns-in-Ok-read_map_field-clause-reads g c =
    let key = g.KC.MapValueDecode.reading in
    let e = numbers g.E.Enumeration.of_number g.E.Blank.blank_is in
    let f = numbers g.F.Enumeration.of_number g.F.Blank.blank_is in
    let depth = c.args.depth in
    let n = c.args.number in
    let w = whole (keeping g.KC.MapValueDecode.reading (closed_reading e) g.C.MapStorage.equal g.C.MapStorage.keeps_order c.new-ctx.result.depth c.args.number (g.KC.MapValueDecode.COST + 4)) g.KC.MapCodec.writing closed_writing g.KC.MapCodec.fits (ClosedFits e) (g.C.MapStorage.walks c.rewrite_map_field.new.map)
    c.new-ctx.result.budget.now _ c.args.bytes.now _ (g.C.MapStorage.pairs c.rewrite_map_field.new.map) c.new-encoding.result.items _ _ _ (λ l walk. g.met.C.MapStorage.walked c.rewrite_map_field.new.map l walk) c.in-Ok.ensures.read c.in-Ok.ensures.written c.in-Ok.ensures.short c.in-Ok.ensures.fits c.in-Ok.ensures.room in
    let run = subst (λ (z : ℕ). Run key (closed_reading e) z n c.args.bytes.now w.read.entries) c.new-ctx.ensures.depth w.read.run in
    let encoding : c.as_slice-written.result.now ≡ w.out = wrote w.out c.new-encoding.ensures.items w.encoding c.as_slice-written.ensures.value in
    record {
      out = w.out;
      over = _;
      rewritten = record {
        left = _;
        rewrites = rewritten key (closed_reading e) g.KC.MapCodec.writing g.KC.MapCodec.fits (ClosedFits e) g.C.MapStorage.equal g.C.MapStorage.keeps_order n (g.KC.MapValueDecode.COST + 4) c.args.bytes.now _ _
            c.new-ctx.result.depth depth c.new-ctx.result.budget.now _ _ _ _ _ _ _ c.new-ctx.ensures.depth
            (c.new-ctx.ensures.budget ∙ left_is c.new-budget.result _ _ c.new-budget.ensures.unknown c.new-budget.ensures.memory) w;
      };
      reads = read_whole key (closed_reading f) g.D.MapStorage.equal g.D.MapStorage.keeps_order n (g.KC.MapValueDecode.COST + 4) (g.D.MapStorage.pairs c.args.map.now) c.args.unknown.now.records _ _
          c.new-ctx-2.result.depth depth c.new-ctx-2.result.budget.now _ c.as_slice-written.result.now w.out c.new-ctx-2.ensures.depth
          (c.new-ctx-2.ensures.budget ∙ left_is c.new-fresh.result _ _ c.new-fresh.ensures.unknown c.new-fresh.ensures.memory) encoding c.in-Ok-read_map_field.ensures.ok;
    }

pub returns-in-Err-clause-refused : goal.returns-in-Err-clause-refused
returns-in-Err-clause-refused g c =
    let e = numbers g.E.Enumeration.of_number g.E.Blank.blank_is in
    not_rewritten g.KC.MapValueDecode.reading (closed_reading e) g.KC.MapCodec.writing g.C.MapStorage.equal g.C.MapStorage.keeps_order c.args.number (g.KC.MapValueDecode.COST + 4) c.args.bytes.now
    (g.C.MapStorage.pairs c.rewrite_map_field.new.map) (g.C.MapStorage.walks c.rewrite_map_field.new.map) _ c.new-ctx.result.depth c.args.depth c.new-ctx.result.budget.now _ c.new-encoding.result.items _ _ _ c.in-Err.error c.new-ctx.ensures.depth
    (c.new-ctx.ensures.budget ∙ left_is c.new-budget.result _ _ c.new-budget.ensures.unknown c.new-budget.ensures.memory) c.new-encoding.ensures.items
    (why_not (keeping g.KC.MapValueDecode.reading (closed_reading e) g.C.MapStorage.equal g.C.MapStorage.keeps_order c.new-ctx.result.depth c.args.number (g.KC.MapValueDecode.COST + 4)) g.KC.MapCodec.writing closed_writing g.KC.MapCodec.fits (ClosedFits e) (g.C.MapStorage.walks c.rewrite_map_field.new.map)
    c.new-ctx.result.budget.now _ c.args.bytes.now _ (g.C.MapStorage.pairs c.rewrite_map_field.new.map) c.new-encoding.result.items _ _ 0 (λ l walk. g.met.C.MapStorage.walked c.rewrite_map_field.new.map l walk) {T = Unit {0}} (Err c.in-Err.error) c.in-Err.ensures.read c.in-Err.ensures.fault c.in-Err.ensures.unwritten c.in-Err.ensures.stopped c.in-Err.ensures.full)

pub returns-clause-stops : goal.returns-clause-stops
returns-clause-stops g c =
    let key = g.KC.MapValueDecode.reading in
    let e = numbers g.E.Enumeration.of_number g.E.Blank.blank_is in
    let f = numbers g.F.Enumeration.of_number g.F.Blank.blank_is in
    let cost = g.KC.MapValueDecode.COST + 4 in
    let depth = c.args.depth in
    let n = c.args.number in
    let given = c.args.bytes.now in
    let fault = c.in-Err-read_map_field.error in
    let w = whole (keeping g.KC.MapValueDecode.reading (closed_reading e) g.C.MapStorage.equal g.C.MapStorage.keeps_order c.new-ctx.result.depth c.args.number (g.KC.MapValueDecode.COST + 4)) g.KC.MapCodec.writing closed_writing g.KC.MapCodec.fits (ClosedFits e) (g.C.MapStorage.walks c.rewrite_map_field.new.map)
    c.new-ctx.result.budget.now _ c.args.bytes.now _ (g.C.MapStorage.pairs c.rewrite_map_field.new.map) c.new-encoding.result.items _ _ _ (λ l walk. g.met.C.MapStorage.walked c.rewrite_map_field.new.map l walk) c.in-Ok.ensures.read c.in-Ok.ensures.written c.in-Ok.ensures.short c.in-Ok.ensures.fits c.in-Ok.ensures.room in
    let run = subst (λ (z : ℕ). Run key (closed_reading e) z n given w.read.entries) c.new-ctx.ensures.depth w.read.run in
    let newer = c.newer_enums_take_it_too.ensures e f g.met.E.Enumeration.blank_declared c.requires.refines depth n given w.read.entries run in
    let again = c.rewrite_means.ensures g.C.MapStorage.equal g.met.C.MapStorage.equivalence e f g.met.E.Enumeration.blank_declared c.requires.refines depth n given w.out w.read.entries newer.0 c.requires.number run newer.1 w.rewrite in
    let encoding : c.as_slice-written.result.now ≡ w.out = wrote w.out c.new-encoding.ensures.items w.encoding c.as_slice-written.ensures.value in
    let stops = stopped key (closed_reading f) g.D.MapStorage.equal g.D.MapStorage.keeps_order n cost (g.D.MapStorage.pairs c.args.map.now) c.args.unknown.now.records _ _ fault
    c.new-ctx-2.result.depth depth c.new-ctx-2.result.budget.now _ c.as_slice-written.result.now w.out c.new-ctx-2.ensures.depth
    (c.new-ctx-2.ensures.budget ∙ left_is c.new-fresh.result _ _ c.new-fresh.ensures.unknown c.new-fresh.ensures.memory) encoding c.in-Err-read_map_field.ensures.err in
    record {
      out = w.out;
      over = _;
      unread = _;
      rewritten = record {
        left = _;
        rewrites = rewritten key (closed_reading e) g.KC.MapCodec.writing g.KC.MapCodec.fits (ClosedFits e) g.C.MapStorage.equal g.C.MapStorage.keeps_order n (g.KC.MapValueDecode.COST + 4) c.args.bytes.now _ _
            c.new-ctx.result.depth depth c.new-ctx.result.budget.now _ _ _ _ _ _ _ c.new-ctx.ensures.depth
            (c.new-ctx.ensures.budget ∙ left_is c.new-budget.result _ _ c.new-budget.ensures.unknown c.new-budget.ensures.memory) w;
      };
      run = record { older_entries = w.read.entries; older_run = run; newer_entries = newer.0; newer_run = newer.1 };
      stops = stops;
      short = stop_is_shortage key (closed_reading f) g.D.MapStorage.equal g.D.MapStorage.keeps_order n cost _ _ _ _ fault depth _ w.out again.0
          (λ x. c.plain_entries_charge_units.ensures.entry (g.met.KC.MapCodec.plain, refl) depth cost x) c.one_reading-2.ensures again.1 stops;
    }
