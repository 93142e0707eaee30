-- What `serve` does by its script, and why it ends early.
use Rattle.std.specs.Prelude.{◌≡◌, ◌⊎◌, ⊤, ℕ, true, Option, Some, None, Result, Ok, Err, is_some}
use Rattle.std.specs.Prelude.{option_map}
use Rattle.std.specs.IoError.{error_kind, raw_os_error}
use Rattle.std.specs.declared.io.Error.{Error}
use Rattle.clap.specs.Words.{Text}
use Rattle.command_words.specs.{error_status}
use Rattle.proxy.specs.declared.fault.ProxyFault.{ProxyFault}
use Rattle.proxy.specs.declared.fault.ProxyFault.TheVariants as proxies
use Rattle.proxy.specs.declared.options.Options.{Options}
use Rattle.script_rules.specs.declared.script.Script.{Script}
use Rattle.test_script.specs.{IsMisread, IsScript}
use Rattle.bsonproxy.specs.declared.fault.ServeFault.{ServeFault}
use Rattle.bsonproxy.specs.declared.fault.ServeFault.TheVariants as faults

-- The rules of a proxy: none if no file of a script is named, and else those of a text.
abbrev pub IsRead : (file : Option Text) → Option Script → Type 0
IsRead None script = script ≡ None
IsRead (Some file) None = ⊥
IsRead (Some file) (Some script) = (text : Text) × IsScript text script.rules.items

-- reading the script ends `serve` so
abbrev pub IsUnread : (file : Option Text) → ServeFault → Type 0
IsUnread file (faults.Script fault) = IsMisread file fault
IsUnread file (faults.ScriptFile error) = is_some file ≡ true
IsUnread file (faults.Proxy fault) = is_some file ≡ true

-- what `serve` comes to by the file of its script: the script is read, if one is named, and the
-- proxy ends well or early; or it isn't read
abbrev pub MayEnd : (file : Option Text) → Result ⊤ ServeFault → Type 0
MayEnd file (Ok tt) = (script : Option Script) × IsRead file script
MayEnd file (Err (faults.Script fault)) = IsMisread file fault
MayEnd file (Err (faults.ScriptFile error)) = is_some file ≡ true
MayEnd file (Err (faults.Proxy fault)) =
    ((script : Option Script) × IsRead file script) ⊎ (is_some file ≡ true)

-- ---- the exit status

-- of a call that failed
abbrev pub failed_status : Error → ℕ
failed_status error = error_status (error_kind error) (raw_os_error error)

-- of a proxy that ended early: 2 where it would be its own server
abbrev pub proxy_status : ProxyFault → ℕ
proxy_status (proxies.Listen error) = failed_status error
proxy_status (proxies.Upstream error) = failed_status error
proxy_status proxies.Itself = 2
proxy_status (proxies.PortFile error) = failed_status error
proxy_status (proxies.RecordFile error) = failed_status error
proxy_status (proxies.Io error) = failed_status error

-- of `serve`: 0 if it ended well, and 2 also where the script is at fault
abbrev pub serve_status : Result ⊤ ServeFault → ℕ
serve_status (Ok tt) = 0
serve_status (Err (faults.Script fault)) = 2
serve_status (Err (faults.ScriptFile error)) = failed_status error
serve_status (Err (faults.Proxy fault)) = proxy_status fault

-- the file of the script that the options name
abbrev pub script_file : Options → Option Text
script_file options = option_map (λ file. file.now) options.script

-- ---- what is told

-- the file of which a fault is: of the script, of the port or of records
abbrev pub file_at_fault : ServeFault → Options → Option Text
file_at_fault (faults.Script fault) options = script_file options
file_at_fault (faults.ScriptFile error) options = script_file options
file_at_fault (faults.Proxy (proxies.PortFile error)) options =
    option_map (λ file. file.now) options.port_file
file_at_fault (faults.Proxy (proxies.RecordFile error)) options =
    option_map (λ file. file.now) options.record
file_at_fault (faults.Proxy fault) options = None
