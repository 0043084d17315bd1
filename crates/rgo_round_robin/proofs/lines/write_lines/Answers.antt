use Rattle.std.proofs.Common.{◌≡◌, ◌-◌, ◌+◌, arith, drop, take, length, length-drop}
use Rattle.std.proofs.lemmas.List.{take_all}
use Rattle.rgo_round_robin.proofs.Given.{line_more, writes_on, writes_whole}
use Rattle.rgo_round_robin.proofs.lines.write_lines.Goals as goal

pub loop-written-preserved : goal.loop-written-preserved
loop-written-preserved g c =
    let bytes = c.args.bytes.now in
    let written = c.loop-written.written in
    let whole : take (length bytes - written) (drop written bytes) ≡ drop written bytes =
    take_all _ _ (omega (arith, length-drop written bytes)) in
    let line = rw whole at c.in-Ok.ensures.line in
    record {
      within = omega (arith, line.1, length-drop written bytes, c.loop-written.invariant.within);
      out = line_more written c.in-Ok.count bytes _ _ _ c.loop-written.invariant.out line.2;
      sink = writes_on ⊥ ⊥ _ _ _ _ _ _ _ _ (λ x. x) c.loop-written.invariant.sink
          (writes_whole _ ⊥ _ _ _ _ _ (λ e. cc) (λ x. x) c.in-Ok.ensures.sink);
    }

pub returns-in-Err-clause-part : goal.returns-in-Err-clause-part
returns-in-Err-clause-part g c =
    let bytes = c.args.bytes.now in
    let written = c.loop-written.written in
    let whole : take (length bytes - written) (drop written bytes) ≡ drop written bytes =
    take_all _ _ (omega (arith, length-drop written bytes)) in
    let part = rw whole at c.in-Err.ensures.part in
    (written + part.0, line_more written part.0 bytes _ _ _ c.loop-written.invariant.out part.1)

pub returns-in-Err-clause-sink : goal.returns-in-Err-clause-sink
returns-in-Err-clause-sink g c =
    writes_on ⊥ _ _ _ _ _ _ _ _ _ (λ x. x) c.loop-written.invariant.sink c.in-Err.ensures.sink
