use Rattle.std.proofs.Common.{rules, ◌≡◌, ◌∙◌, ◌+◌, ◌-◌, ◌<◌, ◌≤◌, ◌∷◌, ℕ, suc, [], List, Some, Ok, Err, Result, length, sym, ap, subst, arith, true, false, true≢false}
use Rattle.std.proofs.lemmas.Option.{same_Some}
use Rattle.state_file.specs.Laws.{bottom_of, levels_of}
use Rattle.state_file.specs.declared.record.Key.{Key}
use Rattle.state_file.specs.declared.record.Record.TheVariants.{Bound as BoundRecord}
use Rattle.state_file.specs.declared.record.Record.{Record}
use Rattle.sign_core.specs.declared.fault.SignFault.{SignFault}
use Rattle.sign_core.specs.Caches.{Cached, HasAll, HasBegun, KeepsOrRenews}
use Rattle.sign_core.specs.Signing.{answered_value}
use Rattle.sign_core.specs.Progress.{types_of_key}
use Rattle.sign_core.specs.Records.{is_long, the_key, types_of}
use Rattle.sign_core.specs.inner.KeyTrees.{MakesTrees}
use Rattle.sign_core.specs.Signer.{signature_size, view_of}
use Rattle.sign_core.specs.inner.Signing.{CanBind, Extends, BindsBelow}
use Rattle.sign_core.proofs.calls.AppendMoments.{levels_range}
use Rattle.sign_core.proofs.calls.BindEnds.{bound_last, never_damaged, sound_last, written_last}
use Rattle.sign_core.proofs.chains.BegunCaches.{begun_bound, begun_stays}
use Rattle.sign_core.proofs.chains.BindingChains.{same_key}
use Rattle.sign_core.proofs.calls.NewNameEnds.{Recorded, at_end, binds_below_after, binds_below_refused, is_recorded, key_after, ready_after, unbound_after}
use Rattle.sign_core.proofs.records.Heights.{types_are}
use Rattle.sign_core.proofs.chains.KeptCaches.{anyway, has_bound, keeps_below, keeps_same, on_ok}
use Rattle.sign_core.proofs.chains.RenewedCaches.{renews_bound, renews_stay}
use Rattle.sign_core.proofs.records.Unchanged.{key_stays, some_keyed}
use Rattle.sign_core.proofs.signer.Signer.+bind_below.Goals as goal

pub overflow_add-level : goal.overflow_add-level
overflow_add-level g t c =
    let own : the_key c.args.self.now.records ≡ Some c.key.result.now = ap (λ w. the_key w.records) (sym c.self.view_is) ∙ c.key.ensures.first in
    let within_limit = (levels_range _ _ _ c.key.ensures.sizes c.key.ensures.first c.levels-levels.ensures).1 in
    omega (arith, (c.requires.stands c.key.result.now own).inside, within_limit, c.levels-levels.ensures)

pub returns-in_err-extend-clause-step : goal.returns-in_err-extend-clause-step
returns-in_err-extend-clause-step g t c key keyed =
    let a = c.args in
    let own : the_key a.self.now.records ≡ Some c.key.result.now = ap (λ w. the_key w.records) (sym c.self.view_is) ∙ c.key.ensures.first in
    let same : c.key.result.now ≡ key = same_Some _ _ (sym own ∙ keyed) in
    let levels : levels_of c.key.result.now.secret ≡ levels_of key.secret = ap (λ k. levels_of k.secret) same in
    let fault : SignFault = c.in_err-extend.field-0.0 in
    let failed : c.from_residual.result ≡ Err fault = search rules in
    let answer : Err fault ≡ answered_value c.from_residual.result a.out.now = ap (λ r. answered_value r a.out.now) (sym failed) in
    let below : ℕ = bottom_of key.secret - (a.level + 1) in
    let low : a.level + 1 < levels_of key.secret = omega (arith, levels, c.if-level-levels.true, c.levels-levels.ensures) in
    let at : a.level + 1 ≡ bottom_of key.secret - below = omega (arith, low) in
    let wanted : suc below ≡ bottom_of key.secret - a.level = omega (arith, low) in
    subst (λ (x : ℕ × Result (List ℕ) SignFault).
    BindsBelow g.S.Store g.R.Source g.M.Message a.name.now x.0 a.self.now c.extend.new.self a.message.now a.message.now x.1 key)
    (λ i. (wanted i, answer i))
    (binds_below_refused g.S.Store g.R.Source g.M.Message a.name.now key below (a.level + 1) a.self.now c.extend.new.self a.message.now fault at
    (c.in_err-extend.ensures.step key keyed))

pub prove-unreachable-requires : goal.prove-unreachable-requires
prove-unreachable-requires g t c =
    let a = c.args in
    let own : the_key a.self.now.records ≡ Some c.key.result.now = ap (λ w. the_key w.records) (sym c.self.view_is) ∙ c.key.ensures.first in
    let after : Recorded g.S.Store a.self.now c.extend.new.self =
    is_recorded g.S.Store g.R.Source (a.level + 1) a.self.now c.extend.new.self c.key.result.now
    (c.in_ok-extend.ensures.step c.key.result.now own) in
    true≢false (sym after.is_open ∙ ap (λ w. w.is_open) (sym c.self-then-level-levels.view_is) ∙ c.if-prove.true)

pub bind_below-requires : goal.bind_below-requires
bind_below-requires g t c κs within =
    let a = c.args in
    let own : the_key a.self.now.records ≡ Some c.key.result.now = ap (λ w. the_key w.records) (sym c.self.view_is) ∙ c.key.ensures.first in
    let after : Recorded g.S.Store a.self.now c.extend.new.self =
    is_recorded g.S.Store g.R.Source (a.level + 1) a.self.now c.extend.new.self c.key.result.now
    (c.in_ok-extend.ensures.step c.key.result.now own) in
    let next : the_key c.extend.new.self.records ≡ Some c.key.result.now =
    key_after g.S.Store a.self.now c.extend.new.self c.key.result.now after own in
    let within_limit = (levels_range _ _ _ c.key.ensures.sizes c.key.ensures.first c.levels-levels.ensures).1 in
    let low : a.level + 1 < levels_of c.key.result.now.secret = omega (arith, c.if-level-levels.true, c.levels-levels.ensures) in
    let wanted : levels_of c.key.result.now.secret - a.level ≡ suc (levels_of c.key.result.now.secret - (a.level + 1)) = omega (arith, low) in
    let can : CanBind (g.S.Store.most a.self.now.store) (suc (levels_of c.key.result.now.secret - (a.level + 1))) a.name.now (length a.out.now) a.self.now =
    subst (λ (n : ℕ). CanBind (g.S.Store.most a.self.now.store) n a.name.now (length a.out.now) a.self.now) wanted (c.requires.can c.key.result.now own) in
    let room : length a.out.now ≡ signature_size c.key.result.now.secret = can.room c.key.result.now own in
    let go_on : CanBind (g.S.Store.most c.extend.new.self.store) (levels_of c.key.result.now.secret - (a.level + 1)) a.name.now
    (length a.out.now) c.extend.new.self = record {
      ready = ready_after g.S.Store a.self.now c.extend.new.self _ after can.ready;
      unbound = unbound_after g.S.Store a.self.now c.extend.new.self a.name.now after can.unbound;
      fits = λ key keyed. subst (λ (k : Key). is_long k a.name.now ≡ false) (same_Some _ _ (sym next ∙ keyed)) (can.fits c.key.result.now own);
      room = λ key keyed. subst (λ (k : Key). length a.out.now ≡ signature_size k.secret) (same_Some _ _ (sym next ∙ keyed)) room;
    } in (
      omega (arith, c.decreases, within_limit, low, c.levels-levels.ensures),
      (
        within.0,
        (
          within.1.0,
          (
            within.1.1.0,
            (
              within.1.1.1.0,
              (
                within.1.1.1.1,
                (
                  λ key keyed. subst (λ (k : Key). CanBind (g.S.Store.most c.extend.new.self.store) (levels_of k.secret - (a.level + 1))
                      a.name.now (length a.out.now) c.extend.new.self) (same_Some _ _ (sym next ∙ keyed)) go_on,
                  (
                    c.in_ok-extend.ensures.stands,
                    ap types_of_key (next ∙ sym own) ∙ c.requires.types,
                  ),
                ),
              ),
            ),
          ),
        ),
      ),
    )

pub returns-then-level-levels-clause-step : goal.returns-then-level-levels-clause-step
returns-then-level-levels-clause-step g t c key keyed =
    let a = c.args in
    let own : the_key a.self.now.records ≡ Some c.key.result.now = ap (λ w. the_key w.records) (sym c.self.view_is) ∙ c.key.ensures.first in
    let same : c.key.result.now ≡ key = same_Some _ _ (sym own ∙ keyed) in
    let levels : levels_of c.key.result.now.secret ≡ levels_of key.secret = ap (λ k. levels_of k.secret) same in
    let first : Extends g.S.Store g.R.Source (a.level + 1) a.self.now c.extend.new.self (Ok []) key = c.in_ok-extend.ensures.step key keyed in
    let after : Recorded g.S.Store a.self.now c.extend.new.self =
    is_recorded g.S.Store g.R.Source (a.level + 1) a.self.now c.extend.new.self key first in
    let next : the_key c.extend.new.self.records ≡ Some key = key_after g.S.Store a.self.now c.extend.new.self key after keyed in
    let opened : c.self-then-level-levels.inside.is_open ≡ true = ap (λ w. w.is_open) c.self-then-level-levels.view_is ∙ after.is_open in
    let running : g.S.Store.stopped c.extend.new.self.store ≡ false =
    ap (λ w. g.S.Store.stopped w.store) (sym c.self-then-level-levels.view_is) ∙ (c.self-then-level-levels.invariant.0.tied opened).running in
    let low : a.level + 1 < levels_of key.secret = omega (arith, levels, c.if-level-levels.true, c.levels-levels.ensures) in
    let below : ℕ = bottom_of key.secret - (a.level + 1) in
    let at : a.level + 1 ≡ bottom_of key.secret - below = omega (arith, low) in
    let wanted : suc below ≡ bottom_of key.secret - a.level = omega (arith, low) in
    subst (λ (n : ℕ). BindsBelow g.S.Store g.R.Source g.M.Message a.name.now n a.self.now c.bind_below.new.self a.message.now c.bind_below.new.message
    (answered_value c.bind_below.result c.bind_below.new.out) key) wanted
    (binds_below_after g.S.Store g.R.Source g.M.Message a.name.now key below (a.level + 1) a.self.now c.extend.new.self c.bind_below.new.self
    a.message.now c.bind_below.new.message (answered_value c.bind_below.result c.bind_below.new.out) at running first (c.bind_below.ensures.step key next))

pub returns-in_err-binding-clause-step : goal.returns-in_err-binding-clause-step
returns-in_err-binding-clause-step g t c key keyed =
    let a = c.args in
    let own : the_key a.self.now.records ≡ Some c.key.result.now = ap (λ w. the_key w.records) (sym c.self.view_is) ∙ c.key.ensures.first in
    let levels : levels_of c.key.result.now.secret ≡ levels_of key.secret = ap (λ k. levels_of k.secret) (same_Some _ _ (sym own ∙ keyed)) in
    let low : levels_of key.secret ≤ a.level + 1 = omega (arith, levels, c.if-level-levels.false, c.levels-levels.ensures) in
    let bottom : a.level ≡ bottom_of key.secret = omega (arith, low, (c.requires.stands key keyed).inside) in
    let fault : SignFault = c.in_err-binding.field-0.0 in
    let failed : c.from_residual-in_err-binding.result ≡ Err fault = search rules in
    at_end g.S.Store g.R.Source g.M.Message a.name.now _ _ _ _ _ key _ _ bottom
    (subst (λ (x : Result (List ℕ) SignFault). BindsBelow g.S.Store g.R.Source g.M.Message a.name.now 0 a.self.now c.bind.new.self a.message.now
    c.bind.new.message x key) (ap (λ r. answered_value r a.out.now) (sym failed)) (c.in_err-binding.ensures.step key keyed))

pub write_bound-requires-clause-trees : goal.write_bound-requires-clause-trees
write_bound-requires-clause-trees g t c = subst (λ (k : Key). MakesTrees k.secret c.of.result) c.key-2.ensures.key c.of.ensures

pub write_bound-requires-clause-kept : goal.write_bound-requires-clause-kept
write_bound-requires-clause-kept g t c other others =
    let a = c.args in
    let L = c.self-2.inside.ledger in
    let own : the_key a.self.now.records ≡ Some c.key.result.now = ap (λ w. the_key w.records) (sym c.self.view_is) ∙ c.key.ensures.first in
    let (bound, binds_below, last) = c.in_ok-binding.ensures.step c.key.result.now own in
    let next : the_key c.bind.new.self.records ≡ Some c.key.result.now =
    ap the_key last.grown ∙ key_stays a.self.now.records (BoundRecord bound ∷ []) c.key.result.now own in
    let records = ap (λ w. w.records) c.self-2.view_is in
    let same : c.key.result.now ≡ other = same_key c.bind.new.self.records c.key.result.now other next (ap the_key (sym records) ∙ others) in (
      a.name.now,
      bound_last c.key.result.now other a.self.now.records c.bind.new.self.records L.records a.name.now bound c.in_ok-binding.binding last records same,
    )

pub write_bound-requires-clause-types : goal.write_bound-requires-clause-types
write_bound-requires-clause-types g t c =
    let a = c.args in
    let L = c.self-2.inside.ledger in
    let own : the_key a.self.now.records ≡ Some c.key.result.now = ap (λ w. the_key w.records) (sym c.self.view_is) ∙ c.key.ensures.first in
    let (bound, binds_below, last) = c.in_ok-binding.ensures.step c.key.result.now own in
    let next : the_key c.bind.new.self.records ≡ Some c.key.result.now =
    ap the_key last.grown ∙ key_stays a.self.now.records (BoundRecord bound ∷ []) c.key.result.now own in
    let same : c.key.result.now ≡ L.key = same_key c.bind.new.self.records c.key.result.now L.key next
    (ap (λ w. the_key w.records) (sym c.self-2.view_is) ∙ c.self-2.invariant.1) in
    types_are (the_key a.self.now.records) c.key.result.now a.progress.now.spec c.requires.types own ∙ ap (λ (k : Key). types_of k.secret) same

pub write_bound-requires-clause-room : goal.write_bound-requires-clause-room
write_bound-requires-clause-room g t c =
    let a = c.args in
    let L = c.self-2.inside.ledger in
    let own : the_key a.self.now.records ≡ Some c.key.result.now = ap (λ w. the_key w.records) (sym c.self.view_is) ∙ c.key.ensures.first in
    let (bound, binds_below, last) = c.in_ok-binding.ensures.step c.key.result.now own in
    let next : the_key c.bind.new.self.records ≡ Some c.key.result.now =
    ap the_key last.grown ∙ key_stays a.self.now.records (BoundRecord bound ∷ []) c.key.result.now own in
    let same : c.key.result.now ≡ L.key = same_key c.bind.new.self.records c.key.result.now L.key next
    (ap (λ w. the_key w.records) (sym c.self-2.view_is) ∙ c.self-2.invariant.1) in
    subst (λ (k : Key). length a.out.now ≡ signature_size k.secret) same ((c.requires.can c.key.result.now own).room c.key.result.now own)

pub returns-clause-step : goal.returns-clause-step
returns-clause-step g t c key keyed =
    let a = c.args in
    let whole = c.self-2.inside in
    let L = whole.ledger in
    let own : the_key a.self.now.records ≡ Some c.key.result.now = ap (λ w. the_key w.records) (sym c.self.view_is) ∙ c.key.ensures.first in
    let levels : levels_of c.key.result.now.secret ≡ levels_of key.secret = ap (λ k. levels_of k.secret) (same_Some _ _ (sym own ∙ keyed)) in
    let low : levels_of key.secret ≤ a.level + 1 = omega (arith, levels, c.if-level-levels.false, c.levels-levels.ensures) in
    let stands = c.requires.stands key keyed in
    let bottom : a.level ≡ bottom_of key.secret = omega (arith, low, stands.inside) in
    let (bound, binds_below, last) = c.in_ok-binding.ensures.step key keyed in
    let records = ap (λ w. w.records) c.self-2.view_is in
    let next : the_key c.bind.new.self.records ≡ Some key = ap the_key last.grown ∙ key_stays a.self.now.records (BoundRecord bound ∷ []) key keyed in
    let same : key ≡ L.key = same_key c.bind.new.self.records key L.key next (ap (λ w. the_key w.records) (sym c.self-2.view_is) ∙ c.self-2.invariant.1) in
    let sound = sound_last key L.key a.self.now.records c.bind.new.self.records L.records a.name.now bound c.in_ok-binding.binding a.level
    (some_keyed a.self.now.records key keyed) bottom stands last records same in
    let (x, written, mapped) = never_damaged c.write_bound.result c.map_err.result _ c.map_err.ensures.cases c.write_bound.ensures.damaged sound in
    let signs = written_last key L.key a.self.now.records c.bind.new.self.records L.records a.name.now bound c.in_ok-binding.binding c.write_bound.result x
    c.write_bound.new.out written last records same c.write_bound.ensures.signature in
    let view = ap (λ y. view_of whole.store whole.random L y whole.is_open) c.write_bound.ensures.caches ∙ c.self-2.view_is in
    subst (λ w. BindsBelow g.S.Store g.R.Source g.M.Message a.name.now (bottom_of key.secret - a.level) a.self.now w a.message.now c.bind.new.message
    (answered_value c.map_err.result c.write_bound.new.out) key) (sym view)
    (subst (λ r. BindsBelow g.S.Store g.R.Source g.M.Message a.name.now (bottom_of key.secret - a.level) a.self.now c.bind.new.self a.message.now
    c.bind.new.message (answered_value r c.write_bound.new.out) key) (sym mapped)
    (at_end g.S.Store g.R.Source g.M.Message a.name.now _ _ _ _ _ key _ _ bottom
    (subst (λ b. BindsBelow g.S.Store g.R.Source g.M.Message a.name.now 0 a.self.now c.bind.new.self a.message.now c.bind.new.message (Ok b) key) (sym signs)
    binds_below)))

pub returns-in_err-extend-clause-keeps : goal.returns-in_err-extend-clause-keeps
returns-in_err-extend-clause-keeps g t c = c.in_err-extend.ensures.keeps

pub returns-then-level-levels-clause-keeps : goal.returns-then-level-levels-clause-keeps
returns-then-level-levels-clause-keeps g t c =
    keeps_below c.args.level c.args.self.now.cached c.extend.new.self.cached c.bind_below.new.self.cached c.in_ok-extend.ensures.keeps
    c.bind_below.ensures.keeps

pub returns-in_err-binding-clause-keeps : goal.returns-in_err-binding-clause-keeps
returns-in_err-binding-clause-keeps g t c = keeps_same c.args.level _ _ c.in_err-binding.ensures.cached

pub returns-clause-keeps : goal.returns-clause-keeps
returns-clause-keeps g t c =
    keeps_same c.args.level _ _ (c.write_bound.ensures.caches ∙ ap (λ w. w.cached) c.self-2.view_is ∙ c.in_ok-binding.ensures.cached)

pub returns-then-level-levels-clause-caches : goal.returns-then-level-levels-clause-caches
returns-then-level-levels-clause-caches g t c =
    let a = c.args in
    on_ok c.bind_below.result (λ rest key keyed all.
    let after : Recorded g.S.Store a.self.now c.extend.new.self =
    is_recorded g.S.Store g.R.Source (a.level + 1) a.self.now c.extend.new.self key (c.in_ok-extend.ensures.step key keyed) in
    rest key (key_after g.S.Store a.self.now c.extend.new.self key after keyed) (c.in_ok-extend.ensures.caches key keyed all))
    c.bind_below.ensures.caches

pub returns-clause-caches : goal.returns-clause-caches
returns-clause-caches g t c = anyway c.map_err.result (λ key keyed all.
    let a = c.args in
    let whole = c.self-2.inside in
    let own : the_key a.self.now.records ≡ Some c.key.result.now = ap (λ w. the_key w.records) (sym c.self.view_is) ∙ c.key.ensures.first in
    let levels : levels_of c.key.result.now.secret ≡ levels_of key.secret = ap (λ k. levels_of k.secret) (same_Some _ _ (sym own ∙ keyed)) in
    let low : levels_of key.secret ≤ a.level + 1 = omega (arith, levels, c.if-level-levels.false, c.levels-levels.ensures) in
    let bottom : a.level ≡ bottom_of key.secret = omega (arith, low, (c.requires.stands key keyed).inside) in
    let (bound, binds_below, last) = c.in_ok-binding.ensures.step key keyed in
    let view = ap (λ y. view_of whole.store whole.random whole.ledger y whole.is_open) c.write_bound.ensures.caches ∙ c.self-2.view_is in
    let after = has_bound key a.self.now.records a.level bound a.self.now.cached keyed all in
    subst (λ w. HasAll key w.records (bottom_of key.secret) w.cached) (sym view)
    (subst (λ (x : List Record × ℕ × Cached). HasAll key x.0 x.1 x.2) (λ i. (sym last.grown i, bottom i, sym c.in_ok-binding.ensures.cached i)) after))

-- ---- the caches of new trees

pub returns-in_err-extend-clause-begun : goal.returns-in_err-extend-clause-begun
returns-in_err-extend-clause-begun g t c key keyed start begun =
    let a = c.args in
    begun_stays key a.self.now.records c.extend.new.self.records a.level start a.self.now.cached c.extend.new.self.cached
    c.in_err-extend.ensures.stays c.in_err-extend.ensures.keeps begun

pub returns-then-level-levels-clause-begun : goal.returns-then-level-levels-clause-begun
returns-then-level-levels-clause-begun g t c key keyed start begun =
    let a = c.args in
    let after : Recorded g.S.Store a.self.now c.extend.new.self =
    is_recorded g.S.Store g.R.Source (a.level + 1) a.self.now c.extend.new.self key (c.in_ok-extend.ensures.step key keyed) in
    c.bind_below.ensures.begun key (key_after g.S.Store a.self.now c.extend.new.self key after keyed) start
    (c.in_ok-extend.ensures.begun key keyed start begun)

pub returns-in_err-binding-clause-begun : goal.returns-in_err-binding-clause-begun
returns-in_err-binding-clause-begun g t c key keyed start begun =
    let a = c.args in
    begun_stays key a.self.now.records c.bind.new.self.records a.level start a.self.now.cached c.bind.new.self.cached
    c.in_err-binding.ensures.stays (keeps_same a.level a.self.now.cached c.bind.new.self.cached c.in_err-binding.ensures.cached) begun

pub returns-clause-begun : goal.returns-clause-begun
returns-clause-begun g t c key keyed start begun =
    let a = c.args in
    let whole = c.self-2.inside in
    let (bound, binds_below, last) = c.in_ok-binding.ensures.step key keyed in
    let view = ap (λ y. view_of whole.store whole.random whole.ledger y whole.is_open) c.write_bound.ensures.caches ∙ c.self-2.view_is in
    let after = begun_bound key a.self.now.records a.level start bound a.self.now.cached keyed begun in
    subst (λ w. HasBegun key w.records start w.cached) (sym view)
    (subst (λ (x : List Record × Cached). HasBegun key x.0 start x.1) (λ i. (sym last.grown i, sym c.in_ok-binding.ensures.cached i)) after)

-- ---- the caches of the other levels

pub returns-in_err-extend-clause-renews : goal.returns-in_err-extend-clause-renews
returns-in_err-extend-clause-renews g t c key keyed first renews =
    let a = c.args in
    renews_stay key a.self.now.records c.extend.new.self.records a.level first a.self.now.cached c.extend.new.self.cached
    c.in_err-extend.ensures.stays c.in_err-extend.ensures.stays_cached renews

pub returns-then-level-levels-clause-renews : goal.returns-then-level-levels-clause-renews
returns-then-level-levels-clause-renews g t c key keyed first renews =
    let a = c.args in
    let after : Recorded g.S.Store a.self.now c.extend.new.self =
    is_recorded g.S.Store g.R.Source (a.level + 1) a.self.now c.extend.new.self key (c.in_ok-extend.ensures.step key keyed) in
    c.bind_below.ensures.renews key (key_after g.S.Store a.self.now c.extend.new.self key after keyed) first
    (c.in_ok-extend.ensures.renews key keyed first renews)

pub returns-in_err-binding-clause-renews : goal.returns-in_err-binding-clause-renews
returns-in_err-binding-clause-renews g t c key keyed first renews =
    let a = c.args in
    renews_stay key a.self.now.records c.bind.new.self.records a.level first a.self.now.cached c.bind.new.self.cached
    c.in_err-binding.ensures.stays c.in_err-binding.ensures.cached renews

pub returns-clause-renews : goal.returns-clause-renews
returns-clause-renews g t c key keyed first renews =
    let a = c.args in
    let whole = c.self-2.inside in
    let (bound, binds_below, last) = c.in_ok-binding.ensures.step key keyed in
    let view = ap (λ y. view_of whole.store whole.random whole.ledger y whole.is_open) c.write_bound.ensures.caches ∙ c.self-2.view_is in
    let after = renews_bound key a.self.now.records a.level bound first a.self.now.cached keyed renews in
    subst (λ w. KeepsOrRenews key w.records first w.cached) (sym view)
    (subst (λ (x : List Record × Cached). KeepsOrRenews key x.0 first x.1) (λ i. (sym last.grown i, sym c.in_ok-binding.ensures.cached i)) after)
