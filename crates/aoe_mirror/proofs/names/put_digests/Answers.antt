use Rattle.std.proofs.Common.{refl}
use Rattle.aoe_mirror.proofs.Naming.{digests_put, rest_put}
use Rattle.aoe_mirror.proofs.names.put_digests.Goals as goal

pub returns-clause-names : goal.returns-clause-names
returns-clause-names c = digests_put 32 refl c.copy_from_slice.new.self c.copy_from_slice-2.new.self c.copy_from_slice-3.new.self c.split_at_mut-two_place.result.1.now
    c.args.one.now c.args.two.now c.args.out.now c.copy_from_slice.ensures.after c.copy_from_slice-2.ensures.after c.copy_from_slice-3.ensures.after
    (rest_put c.split_at_mut-head_place.result.1.now c.split_at_mut-one_place.result.1.now c.split_at_mut-two_place.result.1.now c.args.out.now
    c.split_at_mut-head_place.ensures.back c.split_at_mut-one_place.ensures.back c.split_at_mut-two_place.ensures.back)
    512 c.requires.out c.requires.one c.requires.two
