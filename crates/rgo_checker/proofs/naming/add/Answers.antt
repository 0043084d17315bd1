use Rattle.rgo_checker.proofs.decides.NamingLaws.{adds_of}
use Rattle.rgo_checker.proofs.naming.add.Goals as goal

pub returns-in-Ok : goal.returns-in-Ok
returns-in-Ok c =
    adds_of c.args.names.now c.insert.new.self c.args.name.now c.in-Ok.is_new c.in-Ok.ensures.added
    (λ q. c.in-Ok.ensures.updates.0 (record { ref_ptr = (0, 0); now = q }))
