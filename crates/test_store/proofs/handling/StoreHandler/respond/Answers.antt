use Rattle.std.proofs.Common.{◌≡◌}
use Rattle.wire_peer.specs.{answers_of, asked, content_of}
use Rattle.wire_peer.proofs.Lemmas.{of_content}
use Rattle.test_store.specs.Commands.{Reply, reply_to}
use Rattle.test_store.specs.Held.{store_of}
use Rattle.test_store.proofs.Handled.{answered, stopped}
use Rattle.test_store.proofs.ReplySets.{reply_set}
use Rattle.test_store.proofs.handling.StoreHandler.respond.Goals as goal

pub returns-in-Ok-clause-answered : goal.returns-in-Ok-clause-answered
returns-in-Ok-clause-answered c =
    let p = c.args.request.now.payload in
    let reply : Reply = record { answer = c.in-Ok.answer; held = store_of c.answer_to.new.store } in
    let is : reply_to (store_of c.args.self.now) (content_of p) ≡ reply =
    of_content p {P = λ k. reply_to (store_of c.args.self.now) k ≡ reply} (reply_set _ _) (λ k held. c.in-Ok.ensures.answered k held) in
    answered c.args.self.now c.answer_to.new.store (asked c.args.request.now) c.in-Ok.answer (answers_of c.args.answers.now) (answers_of c.put_answer-put.new.answers) c.put_answer-put.result is c.requires c.put_answer-put.ensures.put

pub returns-in-Ok-clause-stopped : goal.returns-in-Ok-clause-stopped
returns-in-Ok-clause-stopped c =
    let p = c.args.request.now.payload in
    let reply : Reply = record { answer = c.in-Ok.answer; held = store_of c.answer_to.new.store } in
    let is : reply_to (store_of c.args.self.now) (content_of p) ≡ reply =
    of_content p {P = λ k. reply_to (store_of c.args.self.now) k ≡ reply} (reply_set _ _) (λ k held. c.in-Ok.ensures.answered k held) in
    stopped c.args.self.now _ (asked c.args.request.now) c.in-Ok.answer c.put_answer-put.result is c.put_answer-put.ensures.failed c.put_answer-put.ensures.memory
