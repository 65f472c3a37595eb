use Rattle.std.proofs.Common.{refl, sym, ap, ◌∙◌, arith}
use Rattle.xe_ctx.specs.Tape.{key_of}
use Rattle.xe_scene.specs.Replies.{reply_to}
use Rattle.xe_scene.specs.Script.{tape_of, queue_at}
use Rattle.xe_scene.proofs.TapeLaws.{popped_queues, first_replied, spare_kept, told_reply}
use Rattle.xe_scene.proofs.script_bus.ScriptBusBus.access.Goals as goal

pub returns-in-Ready-clause-replies : goal.returns-in-Ready-clause-replies
returns-in-Ready-clause-replies c =
    let old = c.args.self.now.queues in
    let key = key_of c.args.a in
    let rest = rw c.new-name.ensures at c.take_item.ensures.rest in
    let first = rw c.new-name.ensures at c.take_item.ensures.first in
    let reply = sym c.in-Ready.is ∙ c.reply_to-reply.ensures.value ∙ ap (reply_to c.args.a) first ∙ first_replied c.args.a (queue_at old key).waiting in
    let queues = popped_queues old c.take_item.new.queues key rest in record {
      is = (rw c.in-Ready.is at c.reply_to-reply.ensures.fits, omega (arith, c.push.ensures.len));
      told = told_reply (tape_of c.args.self.now) c.args.a _ _ c.push.new.self.items reply queues c.push.ensures.items;
      unready_ = omega arith;
      faults_ = omega arith;
      spare_ = spare_kept old c.take_item.new.queues key rest;
    }

pub returns-in-NotYet-clause-replies : goal.returns-in-NotYet-clause-replies
returns-in-NotYet-clause-replies c =
    let old = c.args.self.now.queues in
    let key = key_of c.args.a in
    let rest = rw c.new-name.ensures at c.take_item.ensures.rest in
    let first = rw c.new-name.ensures at c.take_item.ensures.first in
    let reply = sym c.in-NotYet.is ∙ c.reply_to-reply.ensures.value ∙ ap (reply_to c.args.a) first ∙ first_replied c.args.a (queue_at old key).waiting in
    let queues = popped_queues old c.take_item.new.queues key rest in
    rw c.in-NotYet.is (record {
      is = (refl, λ h. omega (arith, c.saturating_add-self.ensures, h));
      told = told_reply (tape_of c.args.self.now) c.args.a _ _ c.args.self.now.log.items reply queues refl;
      unready_ = omega (arith, c.saturating_add-self.ensures);
      faults_ = omega arith;
      spare_ = spare_kept old c.take_item.new.queues key rest;
    })

pub returns-in-Failed-clause-replies : goal.returns-in-Failed-clause-replies
returns-in-Failed-clause-replies c =
    let old = c.args.self.now.queues in
    let key = key_of c.args.a in
    let rest = rw c.new-name.ensures at c.take_item.ensures.rest in
    let first = rw c.new-name.ensures at c.take_item.ensures.first in
    let reply = sym c.in-Failed.is ∙ c.reply_to-reply.ensures.value ∙ ap (reply_to c.args.a) first ∙ first_replied c.args.a (queue_at old key).waiting in
    let queues = popped_queues old c.take_item.new.queues key rest in
    rw c.in-Failed.is (record {
      is = (refl, λ h. omega (arith, c.saturating_add-self-in-Failed.ensures, h));
      told = told_reply (tape_of c.args.self.now) c.args.a _ _ c.args.self.now.log.items reply queues refl;
      unready_ = omega arith;
      faults_ = omega (arith, c.saturating_add-self-in-Failed.ensures);
      spare_ = spare_kept old c.take_item.new.queues key rest;
    })
