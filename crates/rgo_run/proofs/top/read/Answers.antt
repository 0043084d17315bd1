use Rattle.std.proofs.Common.{ap, refl, map, string_bytes, Err}
use Rattle.std.proofs.lemmas.Result.{err_from_is_err_and}
use Rattle.rgo_run.specs.Calls.{source_use}
use Rattle.rgo_run.proofs.TextLemmas.{no_words, no_text}
use Rattle.rgo_run.proofs.top.read.Goals as goal

pub returns-in_err-command-clause-err : goal.returns-in_err-command-clause-err
returns-in_err-command-clause-err g c =
    let p = err_from_is_err_and c.from_residual.result c.from_residual.ensures.1 in
    let faults = g.S.Source.faults c.args.source.now in
    rw (p.1, p.2)
    (no_words (map string_bytes c.args.words.now) (source_use (g.S.Source.left c.args.source.now) faults faults)
    c.in_err-command.field-0.0 c.in_err-command.ensures.asked refl)

pub returns-in-Err-clause-err : goal.returns-in-Err-clause-err
returns-in-Err-clause-err g c =
    let end = c.in-Err in
    let source = source_use (g.S.Source.left c.args.source.now) (g.S.Source.faults c.args.source.now)
    (g.S.Source.faults c.read_all.new.source) in
    rw (c.read_ending.ensures, c.kind_of-in-Err.ensures)
    (no_text c.in_ok-command.command (map string_bytes c.args.words.now) source (g.S.Source.left c.read_all.new.source)
    end.end c.in_ok-command.ensures.asked (λ n is. c.in_default.not-Big n is) (λ e. end.ensures.fault (ap Err e))
    (λ e. (end.ensures.kept_too_long (ap Err e), rw (c.limit_of.ensures, c.kind_of.ensures) at (end.ensures.too_long (ap Err e))))
    (λ e. ap g.S.Source.faults (end.ensures.no_memory (ap Err e))))
