use Rattle.std.proofs.Common.{rules, arith}
use Rattle.std.proofs.lemmas.Grind.{common_steps}
use Rattle.mix_data.proofs.ScanSteps.{now_nothing, now_any_of, none_rise}
use Rattle.mix_data.proofs.scan.scan_file.Goals as goal

pub returns-in_default-kind : goal.returns-in_default-kind
returns-in_default-kind g c =
    let cause = c.in-Ok.ensures.cause in
    record {
      scan = now_nothing c.args.path.now _ c.in-Ok.kind _ c.new.ensures.items c.in-Ok.ensures.kind (λ n is. c.in_default-kind.not-File n is);
      rise = none_rise _ c.new.ensures.items;
      uids = first_of (search rules, grind (arith, common_steps));
      history = c.stat.ensures.same;
      cause = record {
        hear = cause.hear;
        say = cause.say;
        later = cause.later;
        more = omega (arith, cause.read);
        failed = search rules;
        stays = λ is. cause.stays is;
        memory = search rules;
      };
      reads = now_any_of _ (g.F.Files.history c.args.files.now) (λ w. omega (arith, cause.read));
    }
