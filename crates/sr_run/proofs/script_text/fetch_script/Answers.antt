use Rattle.std.proofs.Common.{ℕ, ◌≤◌, length, Vec, Global, Some, Err, ap, subst}
use Rattle.sr_run.specs.ScriptText.{Fetches}
use Rattle.sr_io.specs.Shelf.{Fetches as ShelfFetches}
use Rattle.sr_run.proofs.Auditing.{fetched_ok, fetched_too_long, too_long_at}
use Rattle.sr_run.proofs.script_text.fetch_script.Goals as goal

pub returns-in-Ok-clause-text : goal.returns-in-Ok-clause-text
returns-in-Ok-clause-text g c = λ texts told.
    fetched_ok (λ v. v.items) c.in-Ok.text (texts c.args.name.now) c.parsed.result (c.in-Ok.ensures.text texts told)
    (subst (λ t. length t ≤ 1048576 → Fetches c.parsed.result (Some t)) c.as_slice.ensures.value c.parsed.ensures.text)

pub returns-in-Err-TooLong-clause-text : goal.returns-in-Err-TooLong-clause-text
returns-in-Err-TooLong-clause-text g c = λ texts told.
    fetched_too_long (λ (v : Vec ℕ Global). v.items) (texts c.args.name.now) _
    (subst (λ e. ShelfFetches (λ (v : Vec ℕ Global). v.items) (Err e) (texts c.args.name.now) 1048576) c.in-Err-TooLong.field-0-is (c.in-Err-TooLong.ensures.text texts told))
    (ap (λ p. too_long_at p) c.new.ensures.bytes)
