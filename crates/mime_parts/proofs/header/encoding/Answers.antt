use Rattle.std.proofs.Common.{◌≡◌, sym, subst, codes}
use Rattle.mime_parts.specs.Values.{BeginsWith}
use Rattle.mime_parts.proofs.Choices.{ok-map}
use Rattle.mime_parts.proofs.Headers.{encoding-absent, encoding-read, encoding-unread}
use Rattle.mime_parts.proofs.header.encoding.Goals as goal

pub returns-in_default : goal.returns-in_default
returns-in_default c = ok-map (λ b. b ≡ codes "7BIT") _ c.of.result (λ b is. encoding-absent _ b c.in_default.ensures is) c.of.ensures

pub returns-in-Some-first_token : goal.returns-in-Some-first_token
returns-in-Some-first_token c =
    let value = c.in-Some.value.now in
    let token = c.in-Some-first_token.token.now in
    ok-map (λ b. b ≡ token) _ c.of-in-Some-first_token.result (λ b is. encoding-read _ b value c.in-Some.ensures (subst (λ t. BeginsWith value t) (sym is) c.in-Some-first_token.ensures)) c.of-in-Some-first_token.ensures

pub returns-in-None : goal.returns-in-None
returns-in-None c = ok-map (λ b. b ≡ codes "7BIT") _ c.of-in-None.result (λ b is. encoding-unread _ b c.in-Some.value.now c.in-Some.ensures c.in-None.ensures is) c.of-in-None.ensures
