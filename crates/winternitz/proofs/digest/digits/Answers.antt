use Rattle.std.proofs.Common.{◌≡◌, ◌∙◌, ◌<◌, ◌^◌, sym, subst, All}
use Rattle.std.proofs.lemmas.List.Elements.{All-get_or}
use Rattle.byteorder.specs.Endian.{big_bytes}
use Rattle.winternitz.specs.Digest.{message_count, checksum_of, first_digits, AreWinternitzDigits, HasWholeChecksum}
use Rattle.winternitz.proofs.Coefs.{digits_below}
use Rattle.winternitz.proofs.Checksums.{made_digits, are_winternitz_digits, has_whole_checksum, whole_of_law, same_winternitz_digits}
use Rattle.winternitz.proofs.Apart.{none_above}
use Rattle.winternitz.proofs.digest.digits.Goals as goal

pub checksum-checksum-requires-clause-below : goal.checksum-checksum-requires-clause-below
checksum-checksum-requires-clause-below c =
    let message : c.deref.result.now ≡ first_digits c.args.width (message_count c.args.width) c.args.digest.now = cc in
    subst (All (λ d. d < 2 ^ c.args.width)) (sym message) (digits_below _ _ _)

pub returns-clause-computed : goal.returns-clause-computed
returns-clause-computed c =
    let message : c.push_digits.new.all.items ≡ first_digits c.args.width (message_count c.args.width) c.args.digest.now = cc in
    let two : c.checksum-checksum.result ≡ big_bytes 2 (checksum_of c.args.width c.push_digits.new.all.items) = cc in
    made_digits _ _ c.requires _ _ _ _ c.told-digest message two c.checksum_count.ensures c.push_digits-2.ensures.items

pub returns-clause-digits : goal.returns-clause-digits
returns-clause-digits c =
    subst (AreWinternitzDigits c.args.width c.args.digest.now) (sym (returns-clause-computed c))
    (are_winternitz_digits c.args.width c.requires c.args.digest.now c.told-digest c.fits-digest)

pub returns-clause-whole : goal.returns-clause-whole
returns-clause-whole c =
    subst (HasWholeChecksum c.args.width c.args.digest.now) (sym (returns-clause-computed c))
    (has_whole_checksum c.args.width c.requires c.args.digest.now c.told-digest c.fits-digest)

pub returns-clause-apart : goal.returns-clause-apart
returns-clause-apart c = λ other others size fits law each.
    let digest = c.args.digest.now in
    none_above c.args.width digest other _ others size c.fits-digest fits (returns-clause-whole c)
    (whole_of_law c.args.width c.requires other others (size ∙ c.told-digest) fits law) each

pub returns-clause-only : goal.returns-clause-only
returns-clause-only c = λ others law. same_winternitz_digits _ _ _ _ law (returns-clause-digits c)

pub returns-clause-below : goal.returns-clause-below
returns-clause-below c = λ i within.
    All-get_or (λ d. d < 2 ^ c.args.width) _ i 0 within
    (subst (All (λ d. d < 2 ^ c.args.width)) (sym (returns-clause-computed c)) (digits_below _ _ _))
