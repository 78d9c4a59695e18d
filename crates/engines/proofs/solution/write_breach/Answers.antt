use mir.Syntax.{w64}
use Rattle.std.proofs.Common.{◌≡◌, to_z, of_z, arith, rules}
use Rattle.std.proofs.lemmas.Int.{ints}
use Rattle.std.proofs.lemmas.Result.{err_from_is_err_and}
use Rattle.engines.proofs.solution.write_breach.Goals as goal

pub returns-in_err-write_i : goal.returns-in_err-write_i
returns-in_err-write_i g c =
    let back : to_z w64 (of_z w64 c.args.shortage) ≡ c.args.shortage = omega (arith, ints) in
    let p = err_from_is_err_and c.from_residual.result c.from_residual.ensures.1 in
    rw (p.1) (record {
      bytes = c.writes_follow.ensures.beginning _ _ _ _ (rw back at c.in_err-write_i.ensures.bytes);
      failed = search rules;
      flushed = search rules;
      last = search rules;
    })

pub returns : goal.returns
returns g c =
    let back : to_z w64 (of_z w64 c.args.shortage) ≡ c.args.shortage = omega (arith, ints) in
    let cut = rw c.cut.ensures.value at c.write_cut.ensures.bytes in
    record {
      bytes = c.writes_follow.ensures.both c.write_cut.result _ _ _ _ _ (rw back at c.in_ok-write_i.ensures.bytes) cut;
      failed = search rules;
      flushed = search rules;
      last = search rules;
    }
