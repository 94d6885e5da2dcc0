-- A voice and a vote may be moved to another thread: each part of them by itself, since one search over all of them meets its limit.
use Rattle.at_agree.proofs.Prelude.{IsSend, sendable, view_send, declared_send, variants_send, crosses, receipt_send, pass_send}
use Rattle.at_agree.specs.contracts.voice.Voice as voice
use Rattle.at_agree.specs.contracts.votes.Vote as vote

inside_send : IsSend voice.TheInside.the_row
inside_send = search (sendable, crosses, declared_send, pass_send, receipt_send) depth 20

pub voice_send : IsSend voice.the_row
voice_send = view_send voice.TheInside.the_row _ _ _ _ inside_send

pub vote_send : IsSend vote.the_row
vote_send = search (sendable, declared_send, voice_send) depth 20
