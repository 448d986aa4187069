use Rattle.jremakes.proofs.planning.plan_staying.Goals as goal

pub returns-in-Err-clause-planned : goal.returns-in-Err-clause-planned
returns-in-Err-clause-planned g c =
    (c.in-Err.fault, c.apart_refusal.ensures, c.in-Err.ensures.refused)
