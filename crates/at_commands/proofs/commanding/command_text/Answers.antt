use Rattle.at_commands.proofs.Laws.Commands.{IfErr-MakesText, IfOk-MakesText, CameToRefusal-loading}
use Rattle.at_commands.proofs.commanding.command_text.Goals as goal

pub returns-in-Err : goal.returns-in-Err
returns-in-Err g c =
    let refused = c.in-Err.ensures in
    record {
      keeps = refused.keeps;
      unread = refused.unread;
      prints = tt;
      err = CameToRefusal-loading _ _ _ refused.err;
      lawful = c.lawful.ensures;
    }

pub returns : goal.returns
returns g c =
    let loads = c.in-Ok.ensures in
    let lawful = c.lawful.ensures in
    let makes = c.requires.makes _ _ c.text.ensures in
    record {
      keeps = loads.keeps;
      unread = loads.unread;
      prints = IfOk-MakesText _ lawful _ _ _ loads.loads makes;
      err = IfErr-MakesText _ lawful _ _ _ loads.loads makes;
      lawful = lawful;
    }

pub text-requires : goal.text-requires
text-requires g c = c.requires.may _ c.in-Ok.ensures.loads.holds c.in-Ok.ensures.known
