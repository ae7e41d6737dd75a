use Rattle.wire.proofs.Fronts.{front-written}
use Rattle.wire.proofs.front.Header.write.Goals as goal

pub returns : goal.returns
returns c =
    front-written c.args.self _ _ _ c.args.out.now _ _ c.width-from.ensures.value c.width.ensures.value c.requires.room
    c.first_octet.ensures c.write_number.ensures c.write_number-2.ensures
