-- What a ledger leaves is coherent.
use Rattle.at_log.proofs.Prelude.{BookTerms, BoardState, ClosingTerms, Coherent, IsLeft}
use Rattle.at_log.proofs.LeftEntries.{entries-left, own_room-left}
use Rattle.at_log.proofs.LeftCuts.{AreChained-left, view-log_published}
use Rattle.at_log.proofs.LeftTold.{told-left}

pub Coherent-IsLeft : (b : BookTerms) (s : BoardState) (c : ClosingTerms) → IsLeft b s c → Coherent b c
Coherent-IsLeft b s c left = record {
  logs = left.logs;
  receipts = left.receipts;
  cuts = AreChained-left b s c left;
  views = view-log_published b s c left;
  entries = entries-left b s c left;
  own_room = own_room-left b s c left;
  told = told-left b s c left;
}
