use Rattle.std.proofs.Common.{◌≡◌, ◌+◌, ◌<◌, ◌≤◌, ◌++◌, [], ◌∷◌, suc, arith, ap, sym, subst, refl, ◌∙◌, List, get_or, set, length, vec_len}
use Rattle.std.proofs.lemmas.List.{append-nil, length-set}
use mathlib.Core.Option.{some}
use lib.ListN.{get_elem?}
use Rattle.atomic_table.proofs.Lists.{set_here}
use Rattle.crossbeam_deque.specs.Handles.{view, worker_view, IsPassOf}
use Rattle.rgo_sched.specs.declared.accounts.Account.{Account}
use Rattle.rgo_sched.specs.declared.crew.Worker.{Worker}
use Rattle.rgo_sched.specs.declared.deques.Permit.{Permit}
use Rattle.rgo_sched.specs.Crew.{IsCrew}
use Rattle.rgo_sched.specs.Permits.{Fits}
use Rattle.rgo_sched.proofs.CrewLemmas.{at_read, read_at, crew_owner, counts_none, fewer_set, fewer_keep, crew_pop, crew_absorb, last_fits, counts_back, stealer_at, parts_left}
use Rattle.rgo_sched.proofs.crew.take_one.Goals as goal

pub returns-in_default-clause-crew : goal.returns-in_default-clause-crew
returns-in_default-clause-crew g c =
    let o : Worker g.row.T.Denot g.row.B.Denot = get_or c.args.crew.now c.args.worker c.index-crew-worker.result in
    let at : get_elem? c.args.crew.now c.args.worker ≡ some o = at_read c.args.crew.now c.args.worker c.index-crew-worker.result c.requires.worker in
    let n : Worker g.row.T.Denot g.row.B.Denot = record { own = o.own; permits = c.pop.new.self; done = o.done } in
    let ti : n.permits.items ≡ o.permits.items = sym (rw c.in_default.is at c.pop.ensures.items ∙ append-nil c.pop.new.self.items) in
    crew_owner c.args.stealers.now c.args.crew.now c.args.worker o n at refl refl refl ti c.requires.crew

pub returns-in_default-clause-counts : goal.returns-in_default-clause-counts
returns-in_default-clause-counts g c =
    let o : Worker g.row.T.Denot g.row.B.Denot = get_or c.args.crew.now c.args.worker c.index-crew-worker.result in
    let at : get_elem? c.args.crew.now c.args.worker ≡ some o = at_read c.args.crew.now c.args.worker c.index-crew-worker.result c.requires.worker in
    let n : Worker g.row.T.Denot g.row.B.Denot = record { own = o.own; permits = c.pop.new.self; done = o.done } in
    let ti : n.permits.items ≡ o.permits.items = sym (rw c.in_default.is at c.pop.ensures.items ∙ append-nil c.pop.new.self.items) in
    counts_none c.args.crew.now c.args.worker o n at refl ti refl

pub returns-in_default-clause-fewer : goal.returns-in_default-clause-fewer
returns-in_default-clause-fewer g c =
    let o : Worker g.row.T.Denot g.row.B.Denot = get_or c.args.crew.now c.args.worker c.index-crew-worker.result in
    let at : get_elem? c.args.crew.now c.args.worker ≡ some o = at_read c.args.crew.now c.args.worker c.index-crew-worker.result c.requires.worker in
    let n : Worker g.row.T.Denot g.row.B.Denot = record { own = o.own; permits = c.pop.new.self; done = o.done } in
    let ti : n.permits.items ≡ o.permits.items = sym (rw c.in_default.is at c.pop.ensures.items ∙ append-nil c.pop.new.self.items) in
    let e = rw c.in_default.is at c.pop.ensures.cases in
    let l : length n.permits.items ≡ length o.permits.items = ap length ti in
    fewer_set c.args.crew.now c.args.worker o n at (omega (arith, e.0, e.1, n.permits.ok, o.permits.ok))

pub offset_bounds-crew-deque : goal.offset_bounds-crew-deque
offset_bounds-crew-deque g c =
    let o : Worker g.row.T.Denot g.row.B.Denot = get_or c.args.crew.now c.args.worker c.index-crew-worker.result in
    let at : get_elem? c.args.crew.now c.args.worker ≡ some o = at_read c.args.crew.now c.args.worker c.index-crew-worker.result c.requires.worker in
    let n : Worker g.row.T.Denot g.row.B.Denot = record { own = o.own; permits = c.pop.new.self; done = o.done } in
    let t : Permit g.row.T.Denot g.row.B.Denot = c.in-Some.permit in
    let push : o.permits.items ≡ n.permits.items ++ t ∷ [] = rw c.in-Some.is at c.pop.ensures.items in
    let len : length o.permits.items ≡ suc (length n.permits.items) = (let e = rw c.in-Some.is at c.pop.ensures.cases in omega (arith, e, o.permits.ok, n.permits.ok)) in
    let few : length o.permits.items ≤ length c.args.stealers.now = (c.requires.crew.fit c.args.worker o at).few in
    let same = c.requires.crew.same in
    let ms : List (Worker g.row.T.Denot g.row.B.Denot) = set c.args.crew.now c.args.worker n in
    let long : length ms ≡ length c.args.crew.now = length-set c.args.crew.now c.args.worker n in
    let again : get_or ms c.args.worker c.index-crew-worker-2.result ≡ n = read_at ms c.args.worker n c.index-crew-worker-2.result (set_here c.args.crew.now c.args.worker n c.requires.worker) in
    let d : c.len-deque.result ≡ length n.permits.items = omega (arith, c.len-deque.ensures, ap (λ (m : Worker g.row.T.Denot g.row.B.Denot). vec_len m.permits) again, n.permits.ok) in
    let most = c.requires.crew.few in
    let small : c.len-deque.result < 64 = omega arith in
    record { fits = omega arith }

pub bounds-crew-deque : goal.bounds-crew-deque
bounds-crew-deque g c =
    let o : Worker g.row.T.Denot g.row.B.Denot = get_or c.args.crew.now c.args.worker c.index-crew-worker.result in
    let at : get_elem? c.args.crew.now c.args.worker ≡ some o = at_read c.args.crew.now c.args.worker c.index-crew-worker.result c.requires.worker in
    let n : Worker g.row.T.Denot g.row.B.Denot = record { own = o.own; permits = c.pop.new.self; done = o.done } in
    let t : Permit g.row.T.Denot g.row.B.Denot = c.in-Some.permit in
    let push : o.permits.items ≡ n.permits.items ++ t ∷ [] = rw c.in-Some.is at c.pop.ensures.items in
    let len : length o.permits.items ≡ suc (length n.permits.items) = (let e = rw c.in-Some.is at c.pop.ensures.cases in omega (arith, e, o.permits.ok, n.permits.ok)) in
    let few : length o.permits.items ≤ length c.args.stealers.now = (c.requires.crew.fit c.args.worker o at).few in
    let same = c.requires.crew.same in
    let ms : List (Worker g.row.T.Denot g.row.B.Denot) = set c.args.crew.now c.args.worker n in
    let long : length ms ≡ length c.args.crew.now = length-set c.args.crew.now c.args.worker n in
    let again : get_or ms c.args.worker c.index-crew-worker-2.result ≡ n = read_at ms c.args.worker n c.index-crew-worker-2.result (set_here c.args.crew.now c.args.worker n c.requires.worker) in
    let d : c.len-deque.result ≡ length n.permits.items = omega (arith, c.len-deque.ensures, ap (λ (m : Worker g.row.T.Denot g.row.B.Denot). vec_len m.permits) again, n.permits.ok) in
    omega arith

pub absorb-requires-clause-table : goal.absorb-requires-clause-table
absorb-requires-clause-table g c =
    let o : Worker g.row.T.Denot g.row.B.Denot = get_or c.args.crew.now c.args.worker c.index-crew-worker.result in
    let at : get_elem? c.args.crew.now c.args.worker ≡ some o = at_read c.args.crew.now c.args.worker c.index-crew-worker.result c.requires.worker in
    let n : Worker g.row.T.Denot g.row.B.Denot = record { own = o.own; permits = c.pop.new.self; done = o.done } in
    let t : Permit g.row.T.Denot g.row.B.Denot = c.in-Some.permit in
    let push : o.permits.items ≡ n.permits.items ++ t ∷ [] = rw c.in-Some.is at c.pop.ensures.items in
    let len : length o.permits.items ≡ suc (length n.permits.items) = (let e = rw c.in-Some.is at c.pop.ensures.cases in omega (arith, e, o.permits.ok, n.permits.ok)) in
    let few : length o.permits.items ≤ length c.args.stealers.now = (c.requires.crew.fit c.args.worker o at).few in
    let same = c.requires.crew.same in
    let ms : List (Worker g.row.T.Denot g.row.B.Denot) = set c.args.crew.now c.args.worker n in
    let long : length ms ≡ length c.args.crew.now = length-set c.args.crew.now c.args.worker n in
    let again : get_or ms c.args.worker c.index-crew-worker-2.result ≡ n = read_at ms c.args.worker n c.index-crew-worker-2.result (set_here c.args.crew.now c.args.worker n c.requires.worker) in
    let d : c.len-deque.result ≡ length n.permits.items = omega (arith, c.len-deque.ensures, ap (λ (m : Worker g.row.T.Denot g.row.B.Denot). vec_len m.permits) again, n.permits.ok) in
    let q : Worker g.row.T.Denot g.row.B.Denot = get_or ms c.len-deque.result c.index-crew-deque.result in
    let at1 : get_elem? ms c.len-deque.result ≡ some q = at_read ms c.len-deque.result c.index-crew-deque.result (omega arith) in
    let at2 : get_elem? ms (length n.permits.items) ≡ some q = subst (λ j. get_elem? ms j ≡ some q) d at1 in
    let popped = crew_pop c.args.stealers.now c.args.crew.now c.args.worker o n t at refl push len c.requires.crew in
    let th = stealer_at c.args.stealers.now (length n.permits.items) (omega arith) in
    let fits : Fits th.0 t = last_fits c.args.stealers.now n.permits.items o.permits.items t th.0 push th.1 (c.requires.crew.fit c.args.worker o at) in
    subst (λ x. IsPassOf x t.pass) (sym (popped.table (length n.permits.items) th.0 q th.1 at2)) fits.table

pub absorb-requires-clause-part : goal.absorb-requires-clause-part
absorb-requires-clause-part g c =
    let o : Worker g.row.T.Denot g.row.B.Denot = get_or c.args.crew.now c.args.worker c.index-crew-worker.result in
    let at : get_elem? c.args.crew.now c.args.worker ≡ some o = at_read c.args.crew.now c.args.worker c.index-crew-worker.result c.requires.worker in
    let n : Worker g.row.T.Denot g.row.B.Denot = record { own = o.own; permits = c.pop.new.self; done = o.done } in
    let t : Permit g.row.T.Denot g.row.B.Denot = c.in-Some.permit in
    let push : o.permits.items ≡ n.permits.items ++ t ∷ [] = rw c.in-Some.is at c.pop.ensures.items in
    let len : length o.permits.items ≡ suc (length n.permits.items) = (let e = rw c.in-Some.is at c.pop.ensures.cases in omega (arith, e, o.permits.ok, n.permits.ok)) in
    let few : length o.permits.items ≤ length c.args.stealers.now = (c.requires.crew.fit c.args.worker o at).few in
    let same = c.requires.crew.same in
    let ms : List (Worker g.row.T.Denot g.row.B.Denot) = set c.args.crew.now c.args.worker n in
    let long : length ms ≡ length c.args.crew.now = length-set c.args.crew.now c.args.worker n in
    let again : get_or ms c.args.worker c.index-crew-worker-2.result ≡ n = read_at ms c.args.worker n c.index-crew-worker-2.result (set_here c.args.crew.now c.args.worker n c.requires.worker) in
    let d : c.len-deque.result ≡ length n.permits.items = omega (arith, c.len-deque.ensures, ap (λ (m : Worker g.row.T.Denot g.row.B.Denot). vec_len m.permits) again, n.permits.ok) in
    let q : Worker g.row.T.Denot g.row.B.Denot = get_or ms c.len-deque.result c.index-crew-deque.result in
    let at1 : get_elem? ms c.len-deque.result ≡ some q = at_read ms c.len-deque.result c.index-crew-deque.result (omega arith) in
    let at2 : get_elem? ms (length n.permits.items) ≡ some q = subst (λ j. get_elem? ms j ≡ some q) d at1 in
    let popped = crew_pop c.args.stealers.now c.args.crew.now c.args.worker o n t at refl push len c.requires.crew in
    let th = stealer_at c.args.stealers.now (length n.permits.items) (omega arith) in
    let fits : Fits th.0 t = last_fits c.args.stealers.now n.permits.items o.permits.items t th.0 push th.1 (c.requires.crew.fit c.args.worker o at) in
    parts_left c.args.stealers.now _ (length n.permits.items) q popped at2

pub returns-clause-crew : goal.returns-clause-crew
returns-clause-crew g c =
    let o : Worker g.row.T.Denot g.row.B.Denot = get_or c.args.crew.now c.args.worker c.index-crew-worker.result in
    let at : get_elem? c.args.crew.now c.args.worker ≡ some o = at_read c.args.crew.now c.args.worker c.index-crew-worker.result c.requires.worker in
    let n : Worker g.row.T.Denot g.row.B.Denot = record { own = o.own; permits = c.pop.new.self; done = o.done } in
    let t : Permit g.row.T.Denot g.row.B.Denot = c.in-Some.permit in
    let push : o.permits.items ≡ n.permits.items ++ t ∷ [] = rw c.in-Some.is at c.pop.ensures.items in
    let len : length o.permits.items ≡ suc (length n.permits.items) = (let e = rw c.in-Some.is at c.pop.ensures.cases in omega (arith, e, o.permits.ok, n.permits.ok)) in
    let few : length o.permits.items ≤ length c.args.stealers.now = (c.requires.crew.fit c.args.worker o at).few in
    let same = c.requires.crew.same in
    let ms : List (Worker g.row.T.Denot g.row.B.Denot) = set c.args.crew.now c.args.worker n in
    let long : length ms ≡ length c.args.crew.now = length-set c.args.crew.now c.args.worker n in
    let again : get_or ms c.args.worker c.index-crew-worker-2.result ≡ n = read_at ms c.args.worker n c.index-crew-worker-2.result (set_here c.args.crew.now c.args.worker n c.requires.worker) in
    let d : c.len-deque.result ≡ length n.permits.items = omega (arith, c.len-deque.ensures, ap (λ (m : Worker g.row.T.Denot g.row.B.Denot). vec_len m.permits) again, n.permits.ok) in
    let q : Worker g.row.T.Denot g.row.B.Denot = get_or ms c.len-deque.result c.index-crew-deque.result in
    let at1 : get_elem? ms c.len-deque.result ≡ some q = at_read ms c.len-deque.result c.index-crew-deque.result (omega arith) in
    let at2 : get_elem? ms (length n.permits.items) ≡ some q = subst (λ j. get_elem? ms j ≡ some q) d at1 in
    let popped = crew_pop c.args.stealers.now c.args.crew.now c.args.worker o n t at refl push len c.requires.crew in
    let th = stealer_at c.args.stealers.now (length n.permits.items) (omega arith) in
    let fits : Fits th.0 t = last_fits c.args.stealers.now n.permits.items o.permits.items t th.0 push th.1 (c.requires.crew.fit c.args.worker o at) in
    let r : Worker g.row.T.Denot g.row.B.Denot = record { own = c.absorb.new.own; permits = q.permits; done = q.done } in
    let parts : (worker_view r.own).parts ≡ (worker_view q.own).parts + (view t.pass).parts = ap (λ (h : Account). h.parts) c.absorb.ensures.views in
    let one = fits.part in
    subst (λ j. IsCrew c.args.stealers.now (λ _. 0) (set ms j r)) (sym d) (crew_absorb c.args.stealers.now ms (length n.permits.items) q r at2 c.absorb.ensures.same.1 c.absorb.ensures.same.0 (omega arith) refl popped)

pub returns-clause-counts : goal.returns-clause-counts
returns-clause-counts g c =
    let o : Worker g.row.T.Denot g.row.B.Denot = get_or c.args.crew.now c.args.worker c.index-crew-worker.result in
    let at : get_elem? c.args.crew.now c.args.worker ≡ some o = at_read c.args.crew.now c.args.worker c.index-crew-worker.result c.requires.worker in
    let n : Worker g.row.T.Denot g.row.B.Denot = record { own = o.own; permits = c.pop.new.self; done = o.done } in
    let t : Permit g.row.T.Denot g.row.B.Denot = c.in-Some.permit in
    let push : o.permits.items ≡ n.permits.items ++ t ∷ [] = rw c.in-Some.is at c.pop.ensures.items in
    let len : length o.permits.items ≡ suc (length n.permits.items) = (let e = rw c.in-Some.is at c.pop.ensures.cases in omega (arith, e, o.permits.ok, n.permits.ok)) in
    let few : length o.permits.items ≤ length c.args.stealers.now = (c.requires.crew.fit c.args.worker o at).few in
    let same = c.requires.crew.same in
    let ms : List (Worker g.row.T.Denot g.row.B.Denot) = set c.args.crew.now c.args.worker n in
    let long : length ms ≡ length c.args.crew.now = length-set c.args.crew.now c.args.worker n in
    let again : get_or ms c.args.worker c.index-crew-worker-2.result ≡ n = read_at ms c.args.worker n c.index-crew-worker-2.result (set_here c.args.crew.now c.args.worker n c.requires.worker) in
    let d : c.len-deque.result ≡ length n.permits.items = omega (arith, c.len-deque.ensures, ap (λ (m : Worker g.row.T.Denot g.row.B.Denot). vec_len m.permits) again, n.permits.ok) in
    let q : Worker g.row.T.Denot g.row.B.Denot = get_or ms c.len-deque.result c.index-crew-deque.result in
    let at1 : get_elem? ms c.len-deque.result ≡ some q = at_read ms c.len-deque.result c.index-crew-deque.result (omega arith) in
    let at2 : get_elem? ms (length n.permits.items) ≡ some q = subst (λ j. get_elem? ms j ≡ some q) d at1 in
    let popped = crew_pop c.args.stealers.now c.args.crew.now c.args.worker o n t at refl push len c.requires.crew in
    let th = stealer_at c.args.stealers.now (length n.permits.items) (omega arith) in
    let fits : Fits th.0 t = last_fits c.args.stealers.now n.permits.items o.permits.items t th.0 push th.1 (c.requires.crew.fit c.args.worker o at) in
    let r : Worker g.row.T.Denot g.row.B.Denot = record { own = c.absorb.new.own; permits = q.permits; done = q.done } in
    let parts : (worker_view r.own).parts ≡ (worker_view q.own).parts + (view t.pass).parts = ap (λ (h : Account). h.parts) c.absorb.ensures.views in
    let one = fits.part in
    counts_back c.args.crew.now c.args.worker c.len-deque.result o n q r t at at1 refl push refl c.absorb.ensures.views fits.none refl refl

pub returns-clause-fewer : goal.returns-clause-fewer
returns-clause-fewer g c =
    let o : Worker g.row.T.Denot g.row.B.Denot = get_or c.args.crew.now c.args.worker c.index-crew-worker.result in
    let at : get_elem? c.args.crew.now c.args.worker ≡ some o = at_read c.args.crew.now c.args.worker c.index-crew-worker.result c.requires.worker in
    let n : Worker g.row.T.Denot g.row.B.Denot = record { own = o.own; permits = c.pop.new.self; done = o.done } in
    let t : Permit g.row.T.Denot g.row.B.Denot = c.in-Some.permit in
    let push : o.permits.items ≡ n.permits.items ++ t ∷ [] = rw c.in-Some.is at c.pop.ensures.items in
    let len : length o.permits.items ≡ suc (length n.permits.items) = (let e = rw c.in-Some.is at c.pop.ensures.cases in omega (arith, e, o.permits.ok, n.permits.ok)) in
    let few : length o.permits.items ≤ length c.args.stealers.now = (c.requires.crew.fit c.args.worker o at).few in
    let same = c.requires.crew.same in
    let ms : List (Worker g.row.T.Denot g.row.B.Denot) = set c.args.crew.now c.args.worker n in
    let long : length ms ≡ length c.args.crew.now = length-set c.args.crew.now c.args.worker n in
    let again : get_or ms c.args.worker c.index-crew-worker-2.result ≡ n = read_at ms c.args.worker n c.index-crew-worker-2.result (set_here c.args.crew.now c.args.worker n c.requires.worker) in
    let d : c.len-deque.result ≡ length n.permits.items = omega (arith, c.len-deque.ensures, ap (λ (m : Worker g.row.T.Denot g.row.B.Denot). vec_len m.permits) again, n.permits.ok) in
    let q : Worker g.row.T.Denot g.row.B.Denot = get_or ms c.len-deque.result c.index-crew-deque.result in
    let at1 : get_elem? ms c.len-deque.result ≡ some q = at_read ms c.len-deque.result c.index-crew-deque.result (omega arith) in
    let at2 : get_elem? ms (length n.permits.items) ≡ some q = subst (λ j. get_elem? ms j ≡ some q) d at1 in
    let popped = crew_pop c.args.stealers.now c.args.crew.now c.args.worker o n t at refl push len c.requires.crew in
    let th = stealer_at c.args.stealers.now (length n.permits.items) (omega arith) in
    let fits : Fits th.0 t = last_fits c.args.stealers.now n.permits.items o.permits.items t th.0 push th.1 (c.requires.crew.fit c.args.worker o at) in
    let r : Worker g.row.T.Denot g.row.B.Denot = record { own = c.absorb.new.own; permits = q.permits; done = q.done } in
    let parts : (worker_view r.own).parts ≡ (worker_view q.own).parts + (view t.pass).parts = ap (λ (h : Account). h.parts) c.absorb.ensures.views in
    let one = fits.part in
    fewer_keep c.args.crew.now ms c.args.worker c.len-deque.result q r at1 refl (fewer_set c.args.crew.now c.args.worker o n at (omega arith))
