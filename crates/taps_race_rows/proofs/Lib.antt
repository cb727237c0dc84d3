pub mod WorkedScripts
