use Rattle.std.proofs.Common.{rules, ◌≡◌, Err, Ok, Some, refl, subst}
use Rattle.std.specs.Io.KnownBytes.{Appends}
use Rattle.sign_core.specs.inner.Frames.{ReadsHead, head_fields}
use Rattle.sign_core.specs.inner.Serving.{WritesReply}
use Rattle.sign_core.specs.Serving.{reply_bytes}
use Rattle.sign_core.proofs.exchanges.Turns.{after_answer, answered_at, answered_frame, asks_stays, finish_stays, frame_cut, frame_goes, frame_lost, head_failed, head_lost}
use Rattle.sign_core.proofs.serving.take_turn.Goals as goal

pub returns-in_err-write_reply-in-Err : goal.returns-in_err-write_reply-in-Err
returns-in_err-write_reply-in-Err g c =
    let answer : c.from_residual.result ≡ Err c.in_err-write_reply-in-Err.field-0.0 = search rules in
    head_lost g.S.Store g.R.Source g.I.Message _ _ _ _ _ _ c.in-Err.fault c.number.result c.number.ensures c.in-Err.ensures _ _ answer c.in_err-write_reply-in-Err.ensures

pub returns-in-Err : goal.returns-in-Err
returns-in-Err g c =
    head_failed g.S.Store g.R.Source g.I.Message _ _ _ _ _ _ c.in-Err.fault c.number.result c.number.ensures c.in-Err.ensures c.in_ok-write_reply-in-Err.ensures

pub write_answer-written-requires : goal.write_answer-written-requires
write_answer-written-requires g c =
    after_answer g.S.Store g.R.Source _ _ _ _ _ _ _ _ _ c.finish-is_whole.result c.ask-reply.result c.ask-reply.ensures.asks c.finish-is_whole.ensures

pub returns-in_err-written : goal.returns-in_err-written
returns-in_err-written g c =
    let answer : c.from_residual-in_err-written.result ≡ Err c.in_err-written.field-0.0 = search rules in
    let reads : ReadsHead g.I.Message c.args.reader.now c.read_head.new.input (Ok (Some c.in-Ok-Some.head)) =
    subst (λ found. ReadsHead g.I.Message c.args.reader.now c.read_head.new.input (Ok found)) c.in-Ok-Some.field-0-is c.in-Ok-Some.ensures in
    let same_request = asks_stays _ (λ part. part.input.ghost_name) (λ old outcome new step. step.0) _ _ _ _ _ _ _ _ _ _ c.ask-reply.ensures.asks in
    let finished = finish_stays (record { remaining = _; transition = _; request = λ old room outcome new. Unit {0} }) (λ part. part.input.ghost_name)
    (λ old outcome new step. step.0) _ _ _ _ c.finish-is_whole.ensures in
    let part = answered_frame g.S.Store g.R.Source _ g.I.Message (λ part. part.input.now) (λ part. part.left) (record { part = λ old outcome new step. step.1 })
    _ _ _ _ _ _ _ _ c.ask-reply.result c.finish-is_whole.result _ (search rules) c.ask-reply.ensures.capacity c.ask-reply.ensures.caches
    c.keeps_invariant.ensures c.ask-reply.ensures.asks c.finish-is_whole.ensures in
    let frame = answered_at g.S.Store g.R.Source g.I.Message (head_fields c.in-Ok-Some.head) _ _ _ _ _ c.finish-is_whole.new.message.input.now _ _ _ _ _
    c.as_slice-name.ensures.value refl (search rules) part in
    frame_lost g.S.Store g.R.Source g.I.Message c.in-Ok-Some.head _ _ _ _ _ _ _ _ c.ask-reply.new.signature.items c.ask-reply.result
    c.finish-is_whole.result _ _ refl reads frame c.in_err-written.field-0.0 _ answer
    (subst (λ bytes. WritesReply (reply_bytes c.ask-reply.result bytes) (g.W.Write.contents c.args.writer.now) (g.W.Write.contents c.write_answer-written.new.writer)
    (Err c.in_err-written.field-0.0)) c.deref.ensures.value c.in_err-written.ensures)

pub returns-then-not-is_whole : goal.returns-then-not-is_whole
returns-then-not-is_whole g c =
    let reads : ReadsHead g.I.Message c.args.reader.now c.read_head.new.input (Ok (Some c.in-Ok-Some.head)) =
    subst (λ found. ReadsHead g.I.Message c.args.reader.now c.read_head.new.input (Ok found)) c.in-Ok-Some.field-0-is c.in-Ok-Some.ensures in
    let same_request = asks_stays _ (λ part. part.input.ghost_name) (λ old outcome new step. step.0) _ _ _ _ _ _ _ _ _ _ c.ask-reply.ensures.asks in
    let finished = finish_stays (record { remaining = _; transition = _; request = λ old room outcome new. Unit {0} }) (λ part. part.input.ghost_name)
    (λ old outcome new step. step.0) _ _ _ _ c.finish-is_whole.ensures in
    let part = answered_frame g.S.Store g.R.Source _ g.I.Message (λ part. part.input.now) (λ part. part.left) (record { part = λ old outcome new step. step.1 })
    _ _ _ _ _ _ _ _ c.ask-reply.result c.finish-is_whole.result _ (search rules) c.ask-reply.ensures.capacity c.ask-reply.ensures.caches
    c.keeps_invariant.ensures c.ask-reply.ensures.asks c.finish-is_whole.ensures in
    let frame = answered_at g.S.Store g.R.Source g.I.Message (head_fields c.in-Ok-Some.head) _ _ _ _ _ c.finish-is_whole.new.message.input.now _ _ _ _ _
    c.as_slice-name.ensures.value refl (search rules) part in
    frame_cut g.S.Store g.R.Source g.I.Message c.in-Ok-Some.head _ _ _ _ _ _ _ _ c.ask-reply.new.signature.items c.ask-reply.result
    c.finish-is_whole.result _ _ refl reads frame (search rules)
    (subst (λ bytes. Appends (g.W.Write.contents c.args.writer.now) (g.W.Write.contents c.write_answer-written.new.writer)
    (reply_bytes c.ask-reply.result bytes)) c.deref.ensures.value c.in_ok-written.ensures)

pub returns : goal.returns
returns g c =
    let reads : ReadsHead g.I.Message c.args.reader.now c.read_head.new.input (Ok (Some c.in-Ok-Some.head)) =
    subst (λ found. ReadsHead g.I.Message c.args.reader.now c.read_head.new.input (Ok found)) c.in-Ok-Some.field-0-is c.in-Ok-Some.ensures in
    let same_request = asks_stays _ (λ part. part.input.ghost_name) (λ old outcome new step. step.0) _ _ _ _ _ _ _ _ _ _ c.ask-reply.ensures.asks in
    let finished = finish_stays (record { remaining = _; transition = _; request = λ old room outcome new. Unit {0} }) (λ part. part.input.ghost_name)
    (λ old outcome new step. step.0) _ _ _ _ c.finish-is_whole.ensures in
    let part = answered_frame g.S.Store g.R.Source _ g.I.Message (λ part. part.input.now) (λ part. part.left) (record { part = λ old outcome new step. step.1 })
    _ _ _ _ _ _ _ _ c.ask-reply.result c.finish-is_whole.result _ (search rules) c.ask-reply.ensures.capacity c.ask-reply.ensures.caches
    c.keeps_invariant.ensures c.ask-reply.ensures.asks c.finish-is_whole.ensures in
    let frame = answered_at g.S.Store g.R.Source g.I.Message (head_fields c.in-Ok-Some.head) _ _ _ _ _ c.finish-is_whole.new.message.input.now _ _ _ _ _
    c.as_slice-name.ensures.value refl (search rules) part in
    frame_goes g.S.Store g.R.Source g.I.Message c.in-Ok-Some.head _ _ _ _ _ _ _ _ c.ask-reply.new.signature.items c.ask-reply.result
    c.finish-is_whole.result _ _ refl reads frame (search rules)
    (subst (λ bytes. Appends (g.W.Write.contents c.args.writer.now) (g.W.Write.contents c.write_answer-written.new.writer)
    (reply_bytes c.ask-reply.result bytes)) c.deref.ensures.value c.in_ok-written.ensures)
