use Rattle.std.proofs.Common.{◌+◌, length, arith}
use Rattle.file_model.proofs.Putting.{ran_front_then}
use Rattle.mix_data.proofs.OnCalls.{ran_front_weaker, ready_next}
use Rattle.mix_data.proofs.putting.put.Goals as goal

pub returns-in_err-extend-clause-instants : goal.returns-in_err-extend-clause-instants
returns-in_err-extend-clause-instants g c ready =
    ran_front_weaker c.args.path.now c.args.place c.args.place _ (c.args.place + (45 + length c.args.text.now)) (omega arith) (omega arith) _ _ (c.extend.ensures.instants ready)

pub returns-in_err-extend-2-clause-instants : goal.returns-in_err-extend-2-clause-instants
returns-in_err-extend-2-clause-instants g c ready =
    let path = c.args.path.now in
    let place = c.args.place in
    let bound = place + (45 + length c.args.text.now) in
    let next = ready_next path place (place + 45) _ _ _ (omega arith) c.in_ok-extend.ensures.put ready in
    ran_front_then path place bound _ _ _ (ran_front_weaker path place place _ bound (omega arith) (omega arith) _ _ (c.extend.ensures.instants ready))
    (ran_front_weaker path place (place + 45) _ bound (omega arith) (omega arith) _ _ (c.extend-2.ensures.instants next))

pub returns-clause-instants : goal.returns-clause-instants
returns-clause-instants g c ready =
    let path = c.args.path.now in
    let place = c.args.place in
    let bound = place + (45 + length c.args.text.now) in
    let next = ready_next path place (place + 45) _ _ _ (omega arith) c.in_ok-extend.ensures.put ready in
    ran_front_then path place bound _ _ _ (ran_front_weaker path place place _ bound (omega arith) (omega arith) _ _ (c.extend.ensures.instants ready))
    (ran_front_weaker path place (place + 45) _ bound (omega arith) (omega arith) _ _ (c.extend-2.ensures.instants next))
