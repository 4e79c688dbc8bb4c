-- The replay after one more entry.
use Rattle.std.proofs.Common.{◌≡◌, ℕ, ◌-◌, ◌<◌, List, [], ◌∷◌, ◌++◌, Option, Some, None, IfSome, ◌+◌, add-one, append_assoc, true, false, cond, ◌||◌, eq-eqb, refl, sym, ap, ◌∙◌, arith}
use Rattle.blk_base.specs.declared.memory.Room.{Room}
use Rattle.blk_lock.specs.declared.known.Stamped.{Stamped}
use Rattle.blk_lock.specs.declared.known.View.{View}
use Rattle.blk_lock.specs.Rooms.{less}
use Rattle.blk_lock.specs.Stamps.{has_actor, made_by_actor}
use Rattle.blk_lock.proofs.Callers.{done_by_append, done_by_others}
use Rattle.lock_probe.specs.declared.register.RegisterWrite.{RegisterWrite}
use Rattle.lock_probe.specs.declared.register.InitialValue.{InitialValue}
use Rattle.lock_probe.specs.Face.{one_entry}
use Rattle.lock_probe.specs.Replay.{actor_of, value_after, script, Makes}

pub value_after-push : (value : ℕ) (es : List RegisterWrite) (e : RegisterWrite) → value_after value (es ++ e ∷ []) ≡ e.value
value_after-push value [] e = refl
value_after-push value (x ∷ es) e = value_after-push x.value es e

-- a register that was written comes of every opening
pub written_comes : (opening : Option InitialValue) (log es : List RegisterWrite) (e : RegisterWrite) (value : ℕ) → value ≡ e.value → log ≡ es ++ e ∷ [] → IfSome opening (λ o. value ≡ value_after o.value log)
written_comes None log es e value is grown = tt
written_comes (Some o) log es e value is grown = is ∙ sym (ap (value_after o.value) grown ∙ value_after-push o.value es e)

-- one entry is what a register's spare room falls by
pub less-less_one : (room : Room) → 0 < room.entries → less room (less room one_entry) ≡ one_entry
less-less_one room some =
    let e : room.entries - (room.entries - 1) ≡ 1 = omega arith in let b : room.bytes - (room.bytes - 0) ≡ 0 = omega arith in
    λ i. record { entries = e i; bytes = b i }

-- an event of an actor is its next entry
pub done_after : (v w : View RegisterWrite InitialValue) (e : RegisterWrite) (answer : ℕ) → Makes v w e answer → has_actor v.actors e.actor ≡ true → made_by_actor actor_of e.actor w.seen ≡ made_by_actor actor_of e.actor v.seen ++ e ∷ []
done_after v w e answer m held =
    let stamp : Stamped RegisterWrite = record { entry = e; maker = v.name; took = Some one_entry } in
    let own : made_by_actor actor_of e.actor (stamp ∷ []) ≡ e ∷ [] = ap (λ b. cond (b || false) (e ∷ []) []) (eq-eqb e.actor e.actor refl) in
    ap (made_by_actor actor_of e.actor) m.made ∙ done_by_append actor_of e.actor m.before (stamp ∷ []) ∙ ap (λ l. made_by_actor actor_of e.actor m.before ++ l) own
    ∙ ap (λ l. l ++ e ∷ []) (done_by_others actor_of v.names v.actors e.actor v.seen m.before m.others held)

-- what a pass keeps over one event it keeps over several
pub same_kept : (a b c : View RegisterWrite InitialValue) (room : Room) → c ≡ record b { seen = c.seen; room = room } → b ≡ record a { seen = b.seen; room = b.room } → c ≡ record a { seen = c.seen; room = c.room }
same_kept a b c room e i =
    let left : room ≡ c.room = sym (ap (λ (v : View RegisterWrite InitialValue). v.room) e) in
    let first : ◌≡◌ {A = View RegisterWrite InitialValue} (record b { seen = c.seen; room = room }) (record a { seen = c.seen; room = room }) = ap (λ (v : View RegisterWrite InitialValue). record v { seen = c.seen; room = room }) i in
    let second : ◌≡◌ {A = View RegisterWrite InitialValue} (record a { seen = c.seen; room = room }) (record a { seen = c.seen; room = c.room }) = ap (λ (r : Room). record a { seen = c.seen; room = r }) left in
    e ∙ first ∙ second

-- one more turn of the script
pub script_more : (actor turns : ℕ) (xs ys zs : List RegisterWrite) → ys ≡ xs ++ script actor turns → zs ≡ ys ++ record { actor = actor; value = turns } ∷ [] → zs ≡ xs ++ script actor (turns + 1)
script_more actor turns xs ys zs old new =
    let e : RegisterWrite = record { actor = actor; value = turns } in
    new ∙ ap (λ l. l ++ e ∷ []) old ∙ append_assoc xs (script actor turns) (e ∷ []) ∙ ap (λ n. xs ++ script actor n) (sym (add-one turns))
