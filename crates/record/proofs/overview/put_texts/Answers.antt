use Rattle.std.proofs.Common.{ℕ, ◌+◌, ◌≤◌, List, length, refl, ap, ◌∙◌, arith}
use Rattle.escape.specs.Tokens.{resolved}
use Rattle.escape.specs.Resolving.{written}
use Rattle.line.specs.Meanings.{message_of}
use Rattle.record.proofs.Texts.{put_both, texts_length, texts_are, no_room, some_room}
use Rattle.record.proofs.overview.put_texts.Goals as goal

pub returns-in_err-left : goal.returns-in_err-left
returns-in_err-left c =
    let m = message_of c.args.fields.now.message in
    let n = texts_length m (resolved c.raw-handle.result.now) (resolved c.raw-title.result.now) c.resolved_len-middle.result c.resolved_len-more.result c.raw-handle.ensures c.raw-title.ensures c.resolved_len-middle.ensures c.resolved_len-more.ensures in
    rw c.from_residual.ensures (no_room m c.resolved_len-middle.result c.resolved_len-more.result (length c.args.out.now) n (omega (arith, c.in_err-left.ensures)), refl)

pub returns-then-more-left : goal.returns-then-more-left
returns-then-more-left c =
    let m = message_of c.args.fields.now.message in
    let n = texts_length m (resolved c.raw-handle.result.now) (resolved c.raw-title.result.now) c.resolved_len-middle.result c.resolved_len-more.result c.raw-handle.ensures c.raw-title.ensures c.resolved_len-middle.ensures c.resolved_len-more.ensures in
    (no_room m c.resolved_len-middle.result c.resolved_len-more.result (length c.args.out.now) n (omega (arith, c.in_ok-left.ensures)), refl)

pub returns : goal.returns
returns c =
    let m = message_of c.args.fields.now.message in
    let a = resolved c.raw-handle.result.now in
    let b = resolved c.raw-title.result.now in
    let out = c.args.out.now in
    let n = texts_length m a b c.resolved_len-middle.result c.resolved_len-more.result c.raw-handle.ensures c.raw-title.ensures c.resolved_len-middle.ensures c.resolved_len-more.ensures in
    let both : c.resolved_len-middle.result + c.resolved_len-more.result ≤ length out = omega (arith, c.in_ok-left.ensures) in
    let room : length a + length b ≤ length out = omega (arith, c.resolved_len-middle.ensures, c.resolved_len-more.ensures) in (
      some_room m c.resolved_len-middle.result c.resolved_len-more.result (length out) n both,
      c.resolved_len-middle.ensures ∙ ap length c.raw-handle.ensures,
      n,
      put_both a b out c.resolve.new.out c.resolve-2.new.out c.resolved_len-middle.result c.resolved_len-middle.ensures room c.resolve.ensures.after c.resolve-2.ensures.after
          ∙ ap (λ (s : List ℕ). written s out) (texts_are m a b c.raw-handle.ensures c.raw-title.ensures),
    )
