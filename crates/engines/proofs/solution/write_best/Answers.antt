use mir.Syntax.{w128}
use Rattle.std.proofs.Common.{◌≡◌, to_z, of_z, arith, rules}
use Rattle.std.proofs.lemmas.Int.{ints}
use Rattle.std.proofs.lemmas.Result.{err_from_is_err_and}
use Rattle.std.proofs.KnownBytes.{Appends-trans}
use Rattle.engines.proofs.solution.write_best.Goals as goal

pub returns-in_err-write_s : goal.returns-in_err-write_s
returns-in_err-write_s g c =
    let back : to_z w128 (of_z w128 c.args.worth) ≡ c.args.worth = omega (arith, ints) in
    let p = err_from_is_err_and c.from_residual.result c.from_residual.ensures.1 in
    rw (p.1) (record {
      bytes = c.writes_follow.ensures.beginning _ _ _ _ (c.writes_follow.ensures.beginning _ _ _ _ (rw back at c.in_err-write_s.ensures.bytes));
      failed = search rules;
      flushed = search rules;
      last = search rules;
    })

pub returns-in_err-write_flows : goal.returns-in_err-write_flows
returns-in_err-write_flows g c =
    let back : to_z w128 (of_z w128 c.args.worth) ≡ c.args.worth = omega (arith, ints) in
    let p = err_from_is_err_and c.from_residual-in_err-write_flows.result c.from_residual-in_err-write_flows.ensures.1 in
    let flows = rw (c.network.ensures, c.flow.ensures.value) at c.in_err-write_flows.ensures.bytes in
    rw (p.1) (record {
      bytes = c.writes_follow.ensures.beginning _ _ _ _ (c.writes_follow.ensures.stopped _ _ _ _ _ (rw back at c.in_ok-write_s.ensures.bytes) flows);
      failed = search rules;
      flushed = search rules;
      last = search rules;
    })

pub returns : goal.returns
returns g c =
    let back : to_z w128 (of_z w128 c.args.worth) ≡ c.args.worth = omega (arith, ints) in
    let flows = rw (c.network.ensures, c.flow.ensures.value) at c.in_ok-write_flows.ensures.bytes in
    let proof = rw c.potentials.ensures.value at c.write_proof.ensures.bytes in
    record {
      bytes = c.writes_follow.ensures.both c.write_proof.result _ _ _ _ _ (Appends-trans _ _ _ _ _ (rw back at c.in_ok-write_s.ensures.bytes) flows) proof;
      failed = search rules;
      flushed = search rules;
      last = search rules;
    }
