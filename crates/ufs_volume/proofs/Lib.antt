pub mod Folds
mod Off
mod Rising
mod Forms
mod Fronts
mod Why
