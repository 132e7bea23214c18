-- `and` makes a value of no bytes, and the walk sets its list to the one before with the event after it.
use Rattle.std.proofs.Common.{[], ◌∷◌, ◌++◌, refl}
use Rattle.std.proofs.raw_atomic.Walks.{proved}
use mir.Syntax.{named}
use types.Kit.{‵, raw, ◌⊛◌, ◌$◌, ◌∵◌, !, qed, move, keep, drop, split, fjoin, suffices, done}
use types.Part.{agg}
use types.Run.{enter, returns, no_more}
use types.ByLocal.{alloc_all, pass_all, free_all, look_at, sets}
use denote.Builtin.{RefOf}
use denote.Exit.{yes}
use denote.RattleType.{owns}
use denote.Ref.{shr_vals, shr_Tells}
use denote.Signature.{plain, named_lft, types_at}
use denote.Steps.{nothing}
use denote.Triple.Entry.{alive}
use denote.Triple.Walked.{says, Stays, stay_dropped, ends_at, Goes-dropped}
use Rattle.command.specs.Trace.{happening_of}
use Rattle.command.proofs.Walks.{none, none_made}
use Rattle.command.specs.contracts.trace.Trace.{the_row as Log}
use Rattle.command.specs.contracts.trace.Event as Event
use Rattle.command.specs.contracts.trace.Trace.and as f
use Rattle.command.proofs.trace.Trace.and.Statement.{statement}
use Rattle.command.proofs.trace.Trace.and.Code as code

abbrev stayed : Stays f.ended.signature.params f.ended.kept
stayed = (stay_dropped _ yes, (stay_dropped _ yes, tt))

pub and_spec : {M : Type 1} → statement M
and_spec 𝓤 𝓛 𝓜 𝓡 wired =
    let c = f.clauses 𝓛 𝓜.mem 𝓡.returns in
    proved 𝓛 f.ended stayed c 𝓜 𝓡 (
      Goes-dropped 𝓛 3 (RefOf (0 ∷ []) tt (plain (λ _. Log)) (λ _. tt)) yes (λ κs x f. refl),
      (Goes-dropped 𝓛 3 (RefOf (1 ∷ []) tt (plain (λ κs. Event.the_row (named_lft 3 2 tt κs))) (λ _. tt)) yes (λ κs x f. refl), tt),
    )
    f.Key.name code.function (code.unfolded 𝓤 𝓛.H 𝓜 𝓡 wired)
    (λ κs. (shr_vals, (shr_vals, tt)))
    (λ κs. (shr_Tells (named 0) κs.0 Log, (shr_Tells (named 1) κs.1.0 (Event.the_row (named_lft 3 2 tt κs)), tt)))
    (λ κs qs bounds a g are.
    let log : Log.Denot = record { events = a.0.now.events ++ happening_of a.1.0.now ∷ [] } in
    let us = shr_vals a.0 in
    let vs = shr_vals a.1.0 in
    qed 𝓛 ((raw (alive 𝓛 f.signature κs qs) ⊛ ‵ (owns (types_at f.signature.params κs) a (us, (vs, tt)))) ∷ raw ((c κs a).requires g) ∷ []) ∵
    keep ! (0 ∷ []) $ split ! $ move ! (1 ∷ []) $ drop ! $
    enter ! _ _ _ _ _ $ alloc_all ! (λ l. pass_all ! refl ((tt, tt), ((tt, tt), tt)) $
    sets ! (agg ! (no_more !)) refl (tt, tt) $
    nothing ! $ none_made ! $ fjoin ! $
    returns ! (look_at ! 0 refl) $ free_all ! refl $
    suffices ! _ (ends_at 𝓛 f.ended stayed c ((κs, qs, bounds, a, (us, (vs, tt))), g) none log (tt, (tt, tt)) (tt, (tt, tt))) $ says ! refl $
    nothing ! $ nothing ! $ fjoin ! $ nothing ! $ fjoin ! $ move ! (2 ∷ 0 ∷ 1 ∷ []) $ done !))
