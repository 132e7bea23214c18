use Rattle.key_audit.proofs.Levels.{hss_made, lms_made, unread_hss, unread_lms, unread_xmss, xmss_made}
use Rattle.std.proofs.Common.{◌∙◌, ◌∷◌, [], ap}
use Rattle.key_audit.proofs.uses.uses_of.Goals as goal

pub unreachable-requires : goal.unreachable-requires
unreachable-requires c = unread_lms c.args.public.now c.in-Lms.key c.args.message.now c.args.signature.now c.in-Err.field-0 c.in-Lms.is c.requires c.in-Err.ensures.reads

pub unreachable-requires-in-Err-read : goal.unreachable-requires-in-Err-read
unreachable-requires-in-Err-read c = unread_hss c.args.public.now c.in-Hss.key c.args.message.now c.args.signature.now c.in-Err-read.field-0 c.in-Hss.is c.requires c.in-Err-read.ensures.reads

pub unreachable-requires-in-Err-read-2 : goal.unreachable-requires-in-Err-read-2
unreachable-requires-in-Err-read-2 c = unread_xmss c.args.public.now c.in-Xmss.key c.args.message.now c.args.signature.now c.in-Err-read-2.field-0 c.in-Xmss.is c.requires c.in-Err-read-2.ensures.reads

pub returns-in-Ok : goal.returns-in-Ok
returns-in-Ok c = lms_made c.args.public.now c.in-Lms.key c.args.message.now c.args.signature.now _ _ c.in-Lms.is c.in-Ok.ensures.reads (c.only.ensures ∙ ap (λ u. u ∷ []) c.lms_use.ensures)

pub returns-in-Ok-read : goal.returns-in-Ok-read
returns-in-Ok-read c = hss_made c.args.public.now c.in-Hss.key c.args.message.now c.args.signature.now _ _ c.in-Hss.is c.in-Ok-read.ensures.reads c.hss_uses.ensures

pub returns-in-Ok-read-2 : goal.returns-in-Ok-read-2
returns-in-Ok-read-2 c = xmss_made c.args.public.now c.in-Xmss.key c.args.message.now c.args.signature.now _ _ c.in-Xmss.is c.in-Ok-read-2.ensures.reads (c.only-in-Ok-read-2.ensures ∙ ap (λ u. u ∷ []) c.xmss_use.ensures)
